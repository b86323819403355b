-- The numbers of the packets that were sent, as a set for each packet number space.
use Rattle.std.specs.Prelude.{ℕ, List, ◌∷◌}
use Rattle.qa_base.specs.declared.event.Event.{Event}
use Rattle.qa_base.specs.declared.event.Event.TheVariants as events
use Rattle.qa_base.specs.declared.event.SentPacket.{SentPacket}
use Rattle.qa_base.specs.declared.space.Space.{Space}
use Rattle.qa_base.specs.declared.per_space.PerSpace.{PerSpace}
use Rattle.qa_base.specs.machine.Kept.{numbers_of}
use Rattle.qa_base.specs.machine.Numbers.{Names}
use Rattle.qa_base.specs.values.PerSpace.{of_space}

-- the runs of each space
abbrev pub BySpace : Type 0
BySpace = PerSpace (List (ℕ × ℕ))

abbrev pub runs_in : BySpace → Space → List (ℕ × ℕ)
runs_in sets s = of_space s sets

-- in each space they are those of the numbers that were sent there, and of no others
pub record AreSent (sets : BySpace) (h : List Event) : Type 0 where
  pub each : (s : Space) → Names (runs_in sets s) (numbers_of h s)

-- the same once a packet of this number was sent in the space, whatever else is said of it
abbrev pub AreSentWith : BySpace → Space → ℕ → List Event → Type 0
AreSentWith sets space number h =
    (packet : SentPacket)
    → AreSent sets (events.Sent (record packet { space = space; number = number }) ∷ h)
