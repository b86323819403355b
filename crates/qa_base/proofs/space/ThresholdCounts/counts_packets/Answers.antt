use Rattle.std.proofs.Common.{◌≡◌, ◌∙◌, refl}
use denote.Enum.Bare.{sameb}
use Rattle.qa_base.specs.contracts.space.ThresholdCounts.{the_type}
use Rattle.qa_base.specs.declared.space.ThresholdCounts.{ThresholdCounts}
use Rattle.qa_base.specs.declared.space.ThresholdCounts.TheVariants.{Numbers, Packets}
use Rattle.qa_base.specs.values.Settings.{counts_packets}
use Rattle.qa_base.proofs.space.ThresholdCounts.counts_packets.Goals as goal

-- Written out, so that a wrong body is refused at this line.
pub returns : goal.returns
returns c = c.eq.ensures ∙ same c.args.self
  where
    same : (x : ThresholdCounts) → sameb the_type x Packets ≡ counts_packets x
    same Numbers = refl
    same Packets = refl
