-- Events in another order, in which the packets that were sent, those that came and the losses are
-- each in the order of the log, and in which no event is left out or added but for reports and
-- timers that are only set.
use Rattle.std.specs.Prelude.{◌≡◌, ◌+◌, ◌++◌, ℕ, Bool, true, false, List, [], ◌∷◌, length}
use Rattle.std.specs.Prelude.{if◌then◌else◌}
use Rattle.qa_convert.specs.declared.event.LoggedEvent.{LoggedEvent}
use Rattle.qa_convert.specs.declared.event.Report.{Report}
use Rattle.qa_convert.specs.declared.event.Said.{Said}
use Rattle.qa_convert.specs.declared.event.Said.TheVariants as said

abbrev pub is_sent : Said → Bool
is_sent (said.Sent p) = true
is_sent _ = false

abbrev pub is_received : Said → Bool
is_received (said.Received p) = true
is_received _ = false

abbrev pub is_lost : Said → Bool
is_lost (said.Lost p) = true
is_lost _ = false

-- what events of a kind say, in their order
abbrev pub told : (Said → Bool) → List LoggedEvent → List Said
told kind [] = []
told kind (e ∷ es) = if kind e.said then e.said ∷ told kind es else told kind es

-- how many events say what passes a test
abbrev pub count_of : (Said → Bool) → List LoggedEvent → ℕ
count_of test es = length (told test es)

-- a test that no report passes that can be read, since several may be joined, and no timer that is
-- only set, since that is left out
pub record OfKept (test : Said → Bool) : Type 0 where
  pub report : (r : Report) → test (said.Report r) ≡ false
  pub timer : test said.TimerSet ≡ false

-- the events behind tell what those before tell, and then what more events tell; any other event
-- that is kept is there as often, perhaps in another place
pub record Follows (before more behind : List LoggedEvent) : Type 0 where
  pub sent : told is_sent behind ≡ told is_sent before ++ told is_sent more
  pub received : told is_received behind ≡ told is_received before ++ told is_received more
  pub lost : told is_lost behind ≡ told is_lost before ++ told is_lost more
  pub kept : (test : Said → Bool) → OfKept test
      → count_of test behind ≡ count_of test before + count_of test more

-- the log is torn off: the last of the events that wait may be left out, none of which is a packet
pub record LeavesLast (waits ordered : List LoggedEvent) : Type 0 where
  pub front : List LoggedEvent
  pub gone : List LoggedEvent
  pub are : waits ≡ front ++ gone
  pub sent : told is_sent gone ≡ []
  pub received : told is_received gone ≡ []
  pub follows : Follows front [] ordered

-- the log ends: events that wait go on
abbrev pub LetsGo : Bool → List LoggedEvent → List LoggedEvent → Type 0
LetsGo false waits ordered = Follows waits [] ordered
LetsGo true waits ordered = LeavesLast waits ordered

-- what waits for the packet that caused it: no packet, and nothing behind a timer
pub record Waits (is_timed : Bool) (held : List LoggedEvent) : Type 0 where
  pub sent : told is_sent held ≡ []
  pub received : told is_received held ≡ []
  pub timed : is_timed ≡ true → held ≡ []
