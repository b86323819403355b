-- What the ledger holds that keeps no event, and for which history it stands.
use Rattle.std.specs.Prelude.{◌≡◌, Bool, false, List}
use Rattle.qa_base.specs.declared.event.Event.{Event}
use Rattle.qa_base.specs.values.Settings.{Settings}
use Rattle.qa_sender.specs.connection.Known.{IsOf, IsProperToleratedRun}
use Rattle.qa_sender.specs.declared.connection.connection.Connection.{Connection}
use Rattle.qa_packet_numbers.specs.Sent.{AreSent, BySpace}
use Rattle.qa_sender.specs.Standing.{StandsFor}
use Rattle.qa_sender.specs.Trimmed.{IsTrimmed}
use Rattle.qa_sender.specs.Watch.{IsWatched}
use Rattle.qa_sender.specs.declared.watch.TimerWatch.{TimerWatch}
use Rattle.qa_sent_packets.specs.Held.{Held}

-- the connection, the packets that are kept, the numbers that were sent, what is kept of the timer,
-- and whether it was out of memory
pub record State : Type 0 where
  pub connection : Connection
  pub packets : Held
  pub numbers : BySpace
  pub watch : TimerWatch
  pub failed : Bool

-- it is the state after this history under this header; one that has failed may have taken the
-- number of a packet that it did not admit
pub record IsAfter (state : State) (c : Settings) (h : List Event) : Type 0 where
  pub run : IsProperToleratedRun c h
  pub connection : IsOf state.connection c h
  pub packets : StandsFor state.packets c h
  pub numbers : state.failed ≡ false → AreSent state.numbers h
  pub watch : IsWatched state.watch c h

-- the same, and it has not failed
pub record Answers (state : State) (c : Settings) (h : List Event) : Type 0 where
  pub after : IsAfter state c h
  pub works : state.failed ≡ false

-- it is the state after some history, and its packets begin with one that is still of use
pub record IsSound (state : State) : Type 0 where
  pub header : Settings
  pub history : List Event
  pub after : IsAfter state header history
  pub trimmed : IsTrimmed state.packets.packets
