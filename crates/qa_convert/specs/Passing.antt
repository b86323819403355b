-- Events on their way from the log to the lines: each joins those that wait for their order, and
-- goes on into groups.
use Rattle.std.specs.Prelude.{◌≡◌, ◌++◌, ◌||◌, ℕ, Bool, false, List, [], ◌∷◌, Option, Some}
use Rattle.std.specs.Prelude.{None, if◌then◌else◌, nat_le, nat_lt, unwrap_or}
use Rattle.qa_base.specs.values.PerSpace.{of_space}
use Rattle.qa_convert.specs.GroupLines.{TellsOf}
use Rattle.qa_convert.specs.Groups.{Ends, Gathers, Held}
use Rattle.qa_convert.specs.Orders.{Follows, LetsGo}
use Rattle.qa_convert.specs.Rules.{Rules, rules_after}
use Rattle.qa_convert.specs.Telling.{Told}
use Rattle.qa_convert.specs.declared.event.LoggedEvent.{LoggedEvent}
use Rattle.qa_convert.specs.declared.event.Said.{Said}
use Rattle.qa_convert.specs.declared.event.Said.TheVariants as said
use Rattle.qa_convert.specs.declared.groups.Group.{Group}
use Rattle.qa_convert.specs.declared.survey.Retry.{Retry}

-- ---- events that say nothing of the trace

-- a loss of a packet that is only sent again by a probe
abbrev pub is_of_probe : Said → Bool
is_of_probe (said.Lost l) = l.is_repeated
is_of_probe _ = false

abbrev pub is_up_to : Option ℕ → ℕ → Bool
is_up_to None n = false
is_up_to (Some last) n = nat_le n last

-- a loss of a packet that was sent before a Retry
abbrev pub is_of_sent_before : Retry → Said → Bool
is_of_sent_before retry (said.Lost l) = is_up_to (of_space l.space retry.numbers) l.number
is_of_sent_before retry _ = false

abbrev pub is_before : Option Retry → LoggedEvent → Bool
is_before None e = false
is_before (Some retry) e = nat_lt e.at.index retry.first || is_of_sent_before retry e.said

abbrev pub is_left_out : Option Retry → LoggedEvent → Bool
is_left_out retry e = is_of_probe e.said || is_before retry e

-- an event, unless it is left out
abbrev pub counted : Option Retry → LoggedEvent → List LoggedEvent
counted retry e = if is_left_out retry e then [] else e ∷ []

-- ---- events that wait, and groups that are written

-- events that have their order, and then those that still wait for it
abbrev pub waiting : List LoggedEvent → Option (List LoggedEvent) → List LoggedEvent
waiting events order = events ++ unwrap_or order []

-- more events come: they join those that wait, some of these go on into groups, and groups leave
-- the queue in which they are handed out, to be written: the lines tell of them
pub record Passes (r : Rules) (waits : List LoggedEvent) (old : Held) (ready : List Group)
    (before : Told) (more : List LoggedEvent) (r' : Rules) (waits' : List LoggedEvent)
    (new : Held) (ready' : List Group) (after : Told) : Type 0 where
  pub ordered : List LoggedEvent
  pub follows : Follows waits more (ordered ++ waits')
  pub written : List Group
  pub gathers : Gathers old ordered new ready (written ++ ready')
  pub told : TellsOf r written before after
  pub rules : r' ≡ rules_after written r

-- the log ends: the events that wait go on into groups, and what is held is handed out: the lines
-- tell of it
pub record Closes (r : Rules) (is_torn : Bool) (waits : List LoggedEvent) (old : Held)
    (ready : List Group) (before after : Told) : Type 0 where
  pub ordered : List LoggedEvent
  pub let_go : LetsGo is_torn waits ordered
  pub held : Held
  pub gathered : List Group
  pub gathers : Gathers old ordered held ready gathered
  pub written : List Group
  pub ends : Ends is_torn held gathered written
  pub told : TellsOf r written before after
