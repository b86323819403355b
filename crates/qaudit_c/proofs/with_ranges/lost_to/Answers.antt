use Rattle.std.proofs.Common.{◌∙◌, sym}
use Rattle.qaudit_c.proofs.Ranges.{are_ranges, is_time}
use Rattle.qaudit_c.proofs.with_ranges.lost_to.Goals as goal

pub hand_and_keep-requires : goal.hand_and_keep-requires
hand_and_keep-requires c = record { ranges = (is_time c.args.time _ c.in-Some.ensures.some.0, are_ranges c.args.ranges.now _ (sym c.in-Ok-Some.ensures ∙ c.in-Ok-Some.field-0-is)) }
