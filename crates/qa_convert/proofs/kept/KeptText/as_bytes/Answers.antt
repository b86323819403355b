use Rattle.std.proofs.Common.{◌∙◌}
use Rattle.serde_json.specs.Data.{no_members}
use Rattle.qa_convert.specs.Outputs.{guessed}
use Rattle.qa_convert.proofs.Guessed.{guessed_are_own}
use Rattle.qa_convert.proofs.kept.KeptText.as_bytes.Goals as goal

pub returns-clause-own : goal.returns-clause-own
returns-clause-own c =
    let gs = c.self.inside.guesses.items in
    (guessed gs no_members, guessed_are_own gs, c.as_bytes.ensures.value ∙ c.self.invariant)
