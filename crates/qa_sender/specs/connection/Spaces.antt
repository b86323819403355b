-- What is kept of a packet number space, and what an event makes of it.
use Rattle.std.specs.Prelude.{ℕ, max, true, false, List, Option, Some, None}
use Rattle.qa_base.specs.declared.event.Event.{Event}
use Rattle.qa_base.specs.declared.space.Space.{Space}
use Rattle.qa_base.specs.machine.Packets.{is_discarded, largest_acknowledged}
use Rattle.qa_base.specs.machine.Timer as timers
use Rattle.qa_sender.specs.declared.connection.spaces.SpaceState.{SpaceState}
use Rattle.qa_base.specs.values.PerSpace.{of_space, with_space}
use Rattle.qa_base.specs.declared.per_space.PerSpace.{PerSpace}

-- what is kept of a space after a history
abbrev pub space_after : List Event → Space → SpaceState
space_after h s = record {
  discarded = is_discarded h s;
  largest = largest_acknowledged h s;
  last_eliciting = timers.last_eliciting h s;
}

-- of a space in which nothing was sent yet
abbrev pub empty : SpaceState
empty = record { discarded = false; largest = None; last_eliciting = None }

-- the greater of the two, where there are two
abbrev pub raised : Option ℕ → Option ℕ → Option ℕ
raised None most = most
raised (Some n) None = Some n
raised (Some n) (Some most) = Some (max n most)

-- this number was acknowledged, and none above it
abbrev pub with_largest : ℕ → SpaceState → SpaceState
with_largest n state = record state { largest = raised (Some n) state.largest }

-- an ack-eliciting packet was sent then
abbrev pub with_eliciting : ℕ → SpaceState → SpaceState
with_eliciting time state = record state { last_eliciting = Some time }

-- the keys were discarded
abbrev pub with_discarded : SpaceState → SpaceState
with_discarded state = record state { discarded = true }

-- ---- in place

-- what is kept of each space, changed for one of them
abbrev pub changed_in : Space → (SpaceState → SpaceState) → PerSpace SpaceState
    → PerSpace SpaceState
changed_in space step spaces = with_space space spaces (step (of_space space spaces))
