-- Of which history a connection is kept.
use Rattle.std.specs.Prelude.{◌≡◌, ◌≤◌, ◌∷◌, List, length, map, reverse}
use Rattle.std.specs.List.{AllByRecursion}
use Rattle.qa_base.specs.declared.event.Event.{Event}
use Rattle.qa_base.specs.declared.space.Space.{Space}
use Rattle.qa_base.specs.machine.Estimates.{rtt, sampled}
use Rattle.qa_base.specs.machine.Loss as loss
use Rattle.qa_base.specs.machine.Packets.{newly_acknowledged}
use Rattle.qa_base.specs.machine.Reno as moves
use Rattle.qa_base.specs.machine.Violations.{IsToleratedRun}
use Rattle.qa_base.specs.machine.Timer as timers
use Rattle.qa_base.specs.machine.Widths.{Fits, IsTimely}
use Rattle.qa_base.specs.values.Settings.{Settings}
use Rattle.qa_sender.specs.connection.Detecting.{search_after, search_in}
use Rattle.qa_sender.specs.connection.Handshaking.{handshake_after}
use Rattle.qa_sender.specs.connection.Reporting.{reported_after}
use Rattle.qa_sender.specs.connection.Spaces.{space_after}
use Rattle.qa_sender.specs.connection.Spending.{allowances_after}
use Rattle.qa_sender.specs.connection.Steps.{last_sent}
use Rattle.qa_sender.specs.connection.Timing.{timer_after}
use Rattle.qa_sender.specs.declared.connection.connection.Connection.{Connection}
use Rattle.qa_sender.specs.declared.connection.congestion.Losses.{Losses}
use Rattle.qa_sent_packets.specs.Told.{sent_of}
use Rattle.qa_sent_packets.specs.declared.packet.SentPacket.{SentPacket}
use Rattle.qa_base.specs.values.PerSpace.{of_space}
use Rattle.qa_base.specs.values.Limits.{max_lines}

-- ---- what is kept

-- what losses are looked for by: the estimate before what persistent congestion does to it, and
-- what is kept of each space
pub record IsMeasured (k : Connection) (c : Settings) (h : List Event) : Type 0 where
  pub header : k.header ≡ c
  pub rtt : k.rtt ≡ sampled c h
  pub spaces : (s : Space) → of_space s k.spaces ≡ space_after h s

-- each part of it is that of this history
pub record HasParts (k : Connection) (c : Settings) (h : List Event) : Type 0 where
  pub header : k.header ≡ c
  pub handshake : k.handshake ≡ handshake_after h
  pub rtt : k.rtt ≡ rtt c h
  pub reno : k.reno ≡ moves.reno c h
  pub reported : k.reported ≡ reported_after c h
  pub timer : k.timer ≡ timer_after c h
  pub allowances : k.allowances ≡ allowances_after c h
  pub spaces : (s : Space) → of_space s k.spaces ≡ space_after h s

-- it is kept of this history
pub record IsOf (k : Connection) (c : Settings) (h : List Event) : Type 0 where
  pub events : k.events ≡ length h
  pub last_time : k.last_time ≡ timers.time_of_moment h
  pub search : search_in k ≡ search_after c h
  pub parts : HasParts k c h

-- ---- what is told of an event

-- the packets that the last event newly acknowledges, in the order of sending, as they were kept
-- before it
abbrev pub acknowledged_by : Settings → Event → List Event → List SentPacket
acknowledged_by c e h = map (sent_of c h) (reverse (newly_acknowledged (e ∷ h)))

-- what is lost by the event
pub record AreLosses (o : Losses) (c : Settings) (h : List Event) : Type 0 where
  pub last_lost : o.last_lost ≡ last_sent c (loss.declared c h)
  pub is_persistent : o.is_persistent ≡ loss.is_persistent c h

-- ---- the histories of which it is kept

-- a tolerated run of events that lines can say, with times in their range, few enough to be counted
pub record IsProperToleratedRun (c : Settings) (h : List Event) : Type 0 where
  pub run : IsToleratedRun c h
  pub timely : AllByRecursion IsTimely h
  pub fit : AllByRecursion Fits h
  pub few : length h ≤ max_lines
