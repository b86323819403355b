-- What a ledger holds that keeps all events.
use Rattle.std.specs.Prelude.{◌≡◌, ◌≤◌, Bool, List, length}
use Rattle.std.specs.List.{All, AllByRecursion}
use Rattle.qa_base.specs.declared.event.Event.{Event}
use Rattle.qa_base.specs.values.Limits.{max_lines}
use Rattle.qa_base.specs.machine.Packets.{history_of}
use Rattle.qa_base.specs.machine.Violations.{IsToleratedRun}
use Rattle.qa_base.specs.machine.Widths.{Fits, IsTimely}
use Rattle.qa_base.specs.values.Settings.{Settings}
use Rattle.qa_packet_numbers.specs.Sent.{BySpace, AreSent}

-- its header, its events in their order, and whether it was out of memory
pub record Held : Type 0 where
  pub header : Settings
  pub events : List Event
  pub failed : Bool

-- its events are a tolerated run, each in its ranges, and no more than lines may say, and its sets
-- have the numbers that they sent
pub record IsSound (c : Settings) (events : List Event) (sets : BySpace) : Type 0 where
  pub run : IsToleratedRun c (history_of events)
  pub timely : AllByRecursion IsTimely (history_of events)
  pub fit : All Fits events
  pub few : length events ≤ max_lines
  pub sent : AreSent sets (history_of events)

-- it stands for this history under this header
pub record StandsFor (held : Held) (c : Settings) (h : List Event) : Type 0 where
  pub header : held.header ≡ c
  pub events : history_of held.events ≡ h
