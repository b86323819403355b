use Rattle.std.proofs.Common.{◌≡◌, ◌∙◌, ◌∷◌, ◌&&◌, List, Bool, false, refl, sym, ap}
use Rattle.std.proofs.lemmas.Bool.{false≢true}
use Rattle.qa_base.specs.declared.event.Event.{Event}
use Rattle.qa_base.specs.declared.event.Event.TheVariants.{Sent, Ack, Lost, Timer, Discard, Confirmed, Keys, Metrics}
use Rattle.qa_base.specs.machine.Handshake.{is_validated}
use Rattle.qa_base.specs.machine.Packets.{history_of, acknowledges_new}
use Rattle.qa_base.specs.machine.Timer.{resets_count}
use Rattle.qa_base.specs.values.Settings.{Settings}
use Rattle.qa_reference.specs.Words.{is_discard}
use Rattle.qa_reference.proofs.timer.resets_count.Goals as goal

unless_discard : (c : Settings) (e : Event) (h : List Event) → is_discard e ≡ false → resets_count c (e ∷ h) ≡ (acknowledges_new (e ∷ h) && is_validated c (e ∷ h))
unless_discard c (Sent packet) h plain = refl
unless_discard c (Ack ack) h plain = refl
unless_discard c (Lost time space ranges) h plain = refl
unless_discard c (Timer time kind space) h plain = refl
unless_discard c (Discard time space) h plain = absurd (false≢true (sym plain))
unless_discard c (Confirmed time) h plain = refl
unless_discard c (Keys time) h plain = refl
unless_discard c (Metrics time values) h plain = refl

-- Written out, so that a wrong body is refused at these lines.
pub returns-then-acknowledges_new : goal.returns-then-acknowledges_new
returns-then-acknowledges_new c =
    let s = c.args.header.now in
    let h = history_of c.args.before.now in
    let both = λ (new : Bool). new && is_validated s (c.args.event.now ∷ h) in
    c.is_validated.ensures
    ∙ (ap (is_validated s) c.requires.whole
    ∙ sym (unless_discard s c.args.event.now h (sym c.is_discard.ensures ∙ c.if-is_discard.false) ∙ ap both (sym c.acknowledges_new.ensures ∙ c.if-acknowledges_new.true)))
