use Rattle.qa_scan.proofs.Lexing.{lexes_nothing}
use Rattle.qa_scan.proofs.Matching.{byte_then_rest}
use Rattle.qa_scan.proofs.tokens.past.Goals as goal

pub returns-then-first-byte : goal.returns-then-first-byte
returns-then-first-byte c =
    let bytes = c.args.bytes.now in record {
      before = bytes;
      behind = _;
      spaced = lexes_nothing bytes;
      is = byte_then_rest bytes c.args.byte c.in-len1-up.len_at_least c.if-first-byte.true;
      spaced_behind = c.skip_space.ensures;
    }
