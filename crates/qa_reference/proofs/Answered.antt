-- What makes a probe needless.
use Rattle.std.proofs.Common.{◌≡◌, List, ◌∷◌, ◌||◌, refl}
use Rattle.qa_base.specs.declared.event.Event.{Event}
use Rattle.qa_base.specs.declared.event.Event.TheVariants.{Discard}
use Rattle.qa_base.specs.declared.space.Space.{Space}
use Rattle.qa_base.specs.machine.Permission.{answers_pto, is_probe_of}
use Rattle.qa_base.specs.machine.Packets.{acknowledges_new}
use Rattle.qa_reference.specs.Words.{is_discard}

pub answers_is : (s : Space) (e : Event) (h : List Event) → answers_pto s (e ∷ h) ≡ (is_discard e || (is_probe_of s (e ∷ h) || acknowledges_new (e ∷ h)))
answers_is s (Discard time space) h = refl
answers_is s _ h = refl
