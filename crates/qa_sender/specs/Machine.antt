-- For which history a machine stands.
use Rattle.std.specs.Prelude.{◌≡◌, ℕ, List, ◌∷◌}
use Rattle.qa_base.specs.declared.event.Event.{Event}
use Rattle.qa_base.specs.declared.space.Space.{Space}
use Rattle.qa_base.specs.values.Settings.{Settings}
use Rattle.qa_sender.specs.connection.Known.{IsOf, IsProperToleratedRun}
use Rattle.qa_packet_numbers.specs.Sent.{AreSent}
use Rattle.qa_sender.specs.Thresholds.{AreThresholdsAt}
use Rattle.qa_sender.specs.Standing.{replaced}
use Rattle.qa_sender.specs.Standing as packets
use Rattle.qa_sender.specs.Trimmed.{IsTrimmed}
use Rattle.qa_sender.specs.Watch.{IsWatched}
use Rattle.qa_sender.specs.declared.machine.Machine.{Machine}
use Rattle.qa_sent_packets.specs.Held.{Held}
use Rattle.qa_sent_packets.specs.Steps.{Thresholds, found_by}

-- it is the state after this history under this header, which is a tolerated run, and its packets
-- begin with one that is still of use
pub record StandsFor (m : Machine) (c : Settings) (h : List Event) : Type 0 where
  pub run : IsProperToleratedRun c h
  pub connection : IsOf m.connection c h
  pub packets : packets.StandsFor m.packets c h
  pub numbers : AreSent m.numbers h
  pub watch : IsWatched m.watch c h
  pub trimmed : IsTrimmed m.packets.packets

-- what stood for a history stands for it with the event, where that breaks no rule
abbrev pub Follows : Machine → Machine → Event → Type 0
Follows old new e =
    (c : Settings) (h : List Event) → StandsFor old c h → IsProperToleratedRun c (e ∷ h)
    → StandsFor new c (e ∷ h)

-- the packets stand for the history once those of the space are owed that are past a threshold now
abbrev pub StandsOnceFound : Held → Settings → List Event → Space → ℕ → Type 0
StandsOnceFound held c h s now =
    (new : Held) (l : Thresholds) → AreThresholdsAt c h s now l → new ≡ replaced (found_by s l) held
    → packets.StandsFor new c h
