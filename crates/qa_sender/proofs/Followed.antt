-- What the machine of a ledger stands for, and the ledger after it.
use Rattle.std.proofs.Common.{◌≡◌, ◌∙◌, ◌<◌, ◌+◌, Bool, false, List, ◌∷◌, None, refl, sym, ap, subst, arith}
use Rattle.qa_base.specs.declared.event.Event.{Event}
use Rattle.qa_base.specs.machine.Violations.{first_untolerated}
use Rattle.qa_base.specs.machine.Widths.{Fits, IsTimely}
use Rattle.qa_base.specs.values.Settings.{Settings}
use Rattle.qa_sender.specs.connection.Known.{IsProperToleratedRun}
use Rattle.qa_sender.specs.Following.{IsNext}
use Rattle.qa_sender.specs.Machine.{Follows, StandsFor}
use Rattle.qa_sender.specs.Running.{IsAfter, IsSound, State}
use Rattle.qa_sender.specs.Shown.{shown}
use Rattle.qa_sender.specs.Trimmed.{IsTrimmed}
use Rattle.qa_sender.specs.declared.machine.Machine.{Machine}

-- one event more that breaks no rule past which the machine does not go on
pub proper_more : (k : Settings) (h : List Event) (e : Event) (old : State) → IsAfter old k h → first_untolerated k h e ≡ None → IsTimely e → Fits e
    → old.connection.events < 4294967295 → IsProperToleratedRun k (e ∷ h)
proper_more k h e old after allowed timely fit few = record {
  run = (after.run.run, allowed);
  timely = (timely, after.run.timely);
  fit = (fit, after.run.fit);
  few = omega (arith, few, after.connection.events);
}

-- one that has not failed
pub machine_stands : (m : Machine) (failed : Bool) (c : Settings) (h : List Event) → IsAfter (shown m failed) c h → failed ≡ false → IsTrimmed m.packets.packets → StandsFor m c h
machine_stands m failed c h after works trimmed = record {
  run = after.run;
  connection = after.connection;
  packets = after.packets;
  numbers = after.numbers works;
  watch = after.watch;
  trimmed = trimmed;
}

pub machine_after : (m : Machine) (c : Settings) (h : List Event) → StandsFor m c h → IsAfter (shown m false) c h
machine_after m c h stands = record {
  run = stands.run;
  connection = stands.connection;
  packets = stands.packets;
  numbers = λ works. stands.numbers;
  watch = stands.watch;
}

-- ---- an event is followed

-- whatever history the ledger stands for, in which the event comes next
next_proper : (old : Machine) (failed : Bool) (state : State) → shown old failed ≡ state → (e : Event)
    → ((c : Settings) (h : List Event) → IsAfter state c h → first_untolerated c h e ≡ None) → IsTimely e → Fits e → state.connection.events < 4294967295
    → (c : Settings) (h : List Event) → IsAfter (shown old failed) c h → IsProperToleratedRun c (e ∷ h)
next_proper old failed state view e allowed timely fit few c h after =
    let at : IsAfter state c h = subst (λ (s : State). IsAfter s c h) view after in proper_more c h e state at (allowed c h at) timely fit few

pub next_is : (old : Machine) (failed : Bool) (state : State) → shown old failed ≡ state → IsSound (shown old failed) → (e : Event)
    → ((c : Settings) (h : List Event) → IsAfter state c h → first_untolerated c h e ≡ None) → IsTimely e → Fits e → state.connection.events < 4294967295
    → IsNext old.connection.events old.packets e
next_is old failed state view sound e allowed timely fit few = record {
  header = sound.header;
  history = sound.history;
  counted = sound.after.connection.events;
  run = next_proper old failed state view e allowed timely fit few sound.header sound.history sound.after;
  stands = sound.after.packets;
}

pub followed : (old new : Machine) (failed : Bool) (state : State) → shown old failed ≡ state → IsSound (shown old failed) → state.failed ≡ false → (e : Event)
    → ((c : Settings) (h : List Event) → IsAfter state c h → first_untolerated c h e ≡ None) → IsTimely e → Fits e → state.connection.events < 4294967295
    → Follows old new e → (c : Settings) (h : List Event) → IsAfter (shown old failed) c h → StandsFor new c (e ∷ h)
followed old new failed state view sound works e allowed timely fit few follows c h after =
    follows c h (machine_stands old failed c h after (ap (λ (s : State). s.failed) view ∙ works) sound.trimmed)
    (next_proper old failed state view e allowed timely fit few c h after)

pub sound_after : (old new : Machine) (failed : Bool) (state : State) → shown old failed ≡ state → IsSound (shown old failed) → state.failed ≡ false → (e : Event)
    → ((c : Settings) (h : List Event) → IsAfter state c h → first_untolerated c h e ≡ None) → IsTimely e → Fits e → state.connection.events < 4294967295
    → Follows old new e → IsSound (shown new false)
sound_after old new failed state view sound works e allowed timely fit few follows =
    let stands = followed old new failed state view sound works e allowed timely fit few follows sound.header sound.history sound.after in
    record { header = sound.header; history = e ∷ sound.history; after = machine_after new sound.header (e ∷ sound.history) stands; trimmed = stands.trimmed }

pub after_followed : (old new : Machine) (failed : Bool) (state : State) → shown old failed ≡ state → IsSound (shown old failed) → state.failed ≡ false → (e : Event)
    → ((c : Settings) (h : List Event) → IsAfter state c h → first_untolerated c h e ≡ None) → IsTimely e → Fits e → state.connection.events < 4294967295
    → Follows old new e → (false ≡ false) × (new.connection.events ≡ state.connection.events + 1) × ((c : Settings) (h : List Event) → IsAfter state c h → IsAfter (shown new false) c (e ∷ h))
after_followed old new failed state view sound works e allowed timely fit few follows =
    let all = followed old new failed state view sound works e allowed timely fit few follows in
    let before : old.connection.events ≡ state.connection.events = ap (λ (s : State). s.connection.events) view in
    let were = sound.after.connection.events in
    let are = (all sound.header sound.history sound.after).connection.events in
    (refl, omega (arith, before, were, are), λ c h after. machine_after new c (e ∷ h) (all c h (subst (λ (s : State). IsAfter s c h) (sym view) after)))
