use Rattle.std.proofs.Common.{◌∙◌, sym, get_or-take, arith}
use Rattle.qa_scan.proofs.Lanes.{short_of_more}
use Rattle.qa_scan.proofs.short.short_integer.Goals as goal

pub number_ahead-requires : goal.number_ahead-requires
number_ahead-requires c is = c.if-bytes-eq48.false (sym (get_or-take 16 c.args.bytes.now 0 0 (omega arith)) ∙ is)

pub returns : goal.returns
returns c = short_of_more c.args.bytes.now _ _ c.requires c.number_ahead.ensures.short
