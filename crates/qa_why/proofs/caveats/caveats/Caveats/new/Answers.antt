use Rattle.std.proofs.Common.{refl}
use Rattle.qa_base.specs.declared.space.Space.TheVariants.{Initial, Handshake, App}
use Rattle.qa_why.proofs.caveats_lemmas.Noted.{none_noted}
use Rattle.qa_why.proofs.caveats.caveats.Caveats.new.Goals as goal

pub returns : goal.returns
returns c = (
  c.new.ensures,
  none_noted c.new-2.result c.new-3.result c.new-4.result (c.new-2.ensures Initial) (c.new-3.ensures Handshake) (c.new-4.ensures App),
  refl,
)
