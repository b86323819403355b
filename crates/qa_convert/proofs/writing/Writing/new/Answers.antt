use Rattle.std.proofs.Common.{◌≡◌, ◌∙◌, [], ap, refl}
use Rattle.qa_convert.specs.Telling.{nothing, told}
use Rattle.qa_convert.proofs.writing.Writing.new.Goals as goal

nothing_told : told [] ≡ nothing
unfolding told
nothing_told = refl

pub returns-clause-told : goal.returns-clause-told
returns-clause-told c = ap told c.new.ensures.text ∙ nothing_told
