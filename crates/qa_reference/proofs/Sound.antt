-- One more event that breaks no rule past which the machine does not go on.
use Rattle.std.proofs.Common.{◌≡◌, List, [], ◌∷◌, ◌++◌, ◌<◌, arith, None, Result, Ok, Err, OnOk, OnErr, sym, subst, length}
use Rattle.std.proofs.lemmas.List.{length-append}
use Rattle.std.proofs.lemmas.List.Elements.{All-from_recursion, recursion_from_All}
use Rattle.std.specs.List.{AllByRecursion}
use Rattle.qa_base.specs.declared.event.Event.{Event}
use Rattle.qa_base.specs.values.Limits.{max_lines}
use Rattle.qa_base.specs.machine.Packets.{history_of}
use Rattle.qa_base.specs.machine.Violations.{IsToleratedRun, first_untolerated}
use Rattle.qa_base.specs.values.Settings.{Settings}
use Rattle.qa_base.proofs.machine.Histories.{history_of-snoc}
use Rattle.qa_base.proofs.machine.WindowBound.{each_append}
use Rattle.qa_reference.specs.Holding.{IsSound}
use Rattle.qa_base.specs.machine.Widths.{Fits, IsTimely}
use Rattle.qa_packet_numbers.specs.Sent.{BySpace, AreSent}

pub sound_more : (c : Settings) (events : List Event) (e : Event) (old new : BySpace) → IsSound c events old → first_untolerated c (history_of events) e ≡ None → IsTimely e → Fits e → length events < max_lines
    → ((h : List Event) → AreSent old h → AreSent new (e ∷ h)) → IsSound c (events ++ e ∷ []) new
sound_more c events e old new sound allowed timely fit few more =
    let longer : e ∷ history_of events ≡ history_of (events ++ e ∷ []) = sym (history_of-snoc events e) in
    record {
      run = subst (λ (h : List Event). IsToleratedRun c h) longer (sound.run, allowed);
      timely = subst (λ (h : List Event). AllByRecursion IsTimely h) longer (timely, sound.timely);
      fit = All-from_recursion Fits (events ++ e ∷ []) (each_append Fits events (e ∷ []) (recursion_from_All Fits events sound.fit) (fit, tt));
      few = omega (arith, few, length-append events (e ∷ []));
      sent = subst (λ (h : List Event). AreSent new h) longer (more (history_of events) sound.sent);
    }

-- where it was out of memory, all is as it was
pub sound_kept : {E : Type 0} (result : Result (Unit {0}) E) (c : Settings) (events after : List Event) (e : Event) (old new : BySpace) → IsSound c events old
    → first_untolerated c (history_of events) e ≡ None → IsTimely e → Fits e → length events < max_lines → OnOk result (after ≡ events ++ e ∷ [])
    → OnOk result ((h : List Event) → AreSent old h → AreSent new (e ∷ h)) → OnErr result (after ≡ events) → OnErr result (new ≡ old) → IsSound c after new
sound_kept (Ok _) c events after e old new sound allowed timely fit few kept more same unsent = rw kept (sound_more c events e old new sound allowed timely fit few more)
sound_kept (Err _) c events after e old new sound allowed timely fit few kept more same unsent = rw (same, unsent) sound
