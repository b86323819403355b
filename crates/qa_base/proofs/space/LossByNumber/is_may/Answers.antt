use Rattle.std.proofs.Common.{◌≡◌, ◌∙◌, refl}
use denote.Enum.Bare.{sameb}
use Rattle.qa_base.specs.contracts.space.LossByNumber.{the_type}
use Rattle.qa_base.specs.declared.space.LossByNumber.{LossByNumber}
use Rattle.qa_base.specs.declared.space.LossByNumber.TheVariants.{Must, May}
use Rattle.qa_base.specs.values.Settings.{is_may}
use Rattle.qa_base.proofs.space.LossByNumber.is_may.Goals as goal

-- Written out, so that a wrong body is refused at this line.
pub returns : goal.returns
returns c = c.eq.ensures ∙ same c.args.self
  where
    same : (x : LossByNumber) → sameb the_type x May ≡ is_may x
    same Must = refl
    same May = refl
