use Rattle.std.proofs.Common.{◌∙◌, sym, arith}
use Rattle.qa_scan.proofs.Passing.{part_short}
use Rattle.qa_scan.proofs.strings.escape_end.Goals as goal

pub returns-then-is_short : goal.returns-then-is_short
returns-then-is_short c = (part_short c.args.bytes.now c.args.place (omega arith) c.requires.backslash (sym c.is_short.ensures ∙ c.if-is_short.true), omega arith)
