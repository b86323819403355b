use Rattle.qa_scan.proofs.Lexing.{lexes_nothing, one_space}
use Rattle.qa_scan.proofs.Matching.{byte_then_rest}
use Rattle.qa_scan.proofs.tokens.skip_space.Goals as goal

pub returns-in_default : goal.returns-in_default
returns-in_default c = lexes_nothing c.args.bytes.now

pub returns-then-first-gt32 : goal.returns-then-first-gt32
returns-then-first-gt32 c = lexes_nothing c.args.bytes.now

pub returns-then-second-gt32 : goal.returns-then-second-gt32
returns-then-second-gt32 c = one_space c.args.bytes.now _ (byte_then_rest c.args.bytes.now 32 c.in-len1-up.len_at_least c.if-first-eq32.true)
