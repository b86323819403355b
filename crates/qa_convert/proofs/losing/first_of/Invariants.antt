use Rattle.std.proofs.Common.{◌≡◌, false, take}
use Rattle.std.specs.List.{list_any}
use Rattle.qa_base.specs.values.Events.{is_space}
use Rattle.qa_convert.specs.declared.groups.LostAt.{LostAt}
use Rattle.qa_convert.proofs.losing.first_of.Given as goal

abbrev pub invariant-loop-it : goal.invariant-loop-it
invariant-loop-it l = list_any (λ (x : LostAt). is_space l.space x.lost.space) (take l.it-index l.losses) ≡ false
