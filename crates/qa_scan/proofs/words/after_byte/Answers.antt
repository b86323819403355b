use Rattle.qa_scan.proofs.Matching.{byte_then_rest}
use Rattle.qa_scan.proofs.words.after_byte.Goals as goal

pub returns-then-first-byte : goal.returns-then-first-byte
returns-then-first-byte c = byte_then_rest c.args.bytes.now c.args.byte c.in-len1-up.len_at_least c.if-first-byte.true
