-- What an event makes of what is kept of each packet number space.
use Rattle.std.proofs.Common.{◌≡◌, ◌∙◌, ℕ, max, List, [], ◌∷◌, ◌++◌, Bool, true, false, ◌&&◌, ◌||◌, Option, Some, None, flat_map, unwrap_or, refl, sym, ap, arith}
use Rattle.std.specs.Prelude.{if◌then◌else◌}
use Rattle.qa_base.specs.declared.event.Event.{Event}
use Rattle.qa_base.specs.declared.event.SentPacket.{SentPacket as PacketOfEvent}
use Rattle.qa_base.specs.declared.event.Ack.{Ack as Acknowledgment}
use Rattle.qa_base.specs.declared.event.Event.TheVariants.{Ack, Discard, Sent}
use Rattle.qa_base.specs.declared.space.Space.{Space}
use Rattle.qa_base.specs.declared.space.Space.TheVariants.{Initial, Handshake, App}
use Rattle.qa_base.specs.machine.Packets.{greatest, greatest_in, greatest_of, is_discarded}
use Rattle.qa_base.specs.machine.Timer.{last_eliciting}
use Rattle.qa_base.specs.values.Events.{is_space}
use Rattle.qa_base.proofs.machine.Steps.{last_eliciting_sent}
use Rattle.qa_sender.specs.connection.Spaces.{changed_in, raised, space_after, with_discarded, with_eliciting, with_largest}
use Rattle.qa_sender.specs.declared.connection.spaces.SpaceState.{SpaceState}
use Rattle.qa_base.specs.values.PerSpace.{of_space}
use Rattle.qa_base.specs.declared.per_space.PerSpace.{PerSpace}

pub same_of_all : (x : SpaceState) (s : Space) → of_space s (record { initial = x; handshake = x; app = x }) ≡ x
same_of_all x Initial = refl
same_of_all x Handshake = refl
same_of_all x App = refl

-- of each space, where one is changed
changed_of : (step : SpaceState → SpaceState) (space : Space) (old : PerSpace SpaceState) (s : Space)
    → of_space s (changed_in space step old) ≡ (if is_space s space then step (of_space s old) else of_space s old)
changed_of step Initial old Initial = refl
changed_of step Initial old Handshake = refl
changed_of step Initial old App = refl
changed_of step Handshake old Initial = refl
changed_of step Handshake old Handshake = refl
changed_of step Handshake old App = refl
changed_of step App old Initial = refl
changed_of step App old Handshake = refl
changed_of step App old App = refl

-- .. where they were those of a history
changed_is : (h : List Event) (step : SpaceState → SpaceState) (space : Space) (old : PerSpace SpaceState) (s : Space) → of_space s old ≡ space_after h s
    → of_space s (changed_in space step old) ≡ (if is_space s space then step (space_after h s) else space_after h s)
changed_is h step space old s is = changed_of step space old s ∙ ap (λ (x : SpaceState). if is_space s space then step x else x) is

-- ---- an acknowledgment

raised_by : (n : ℕ) (most : Option ℕ) → raised (Some n) most ≡ Some (max n (unwrap_or most n))
raised_by n None = let same : n ≡ max n n = omega arith in ap Some same
raised_by n (Some m) = refl

largest_if : (here : Bool) (n : ℕ) (rest : List ℕ) (gone : Bool) (last : Option ℕ)
    → (if here then with_largest n (record { discarded = gone; largest = greatest_of rest; last_eliciting = last }) else record { discarded = gone; largest = greatest_of rest; last_eliciting = last })
    ≡ record { discarded = gone; largest = greatest_of ((if here then n ∷ [] else []) ++ rest); last_eliciting = last }
largest_if true n rest gone last = ap (λ (most : Option ℕ). record { discarded = gone; largest = most; last_eliciting = last }) (raised_by n (greatest_of rest))
largest_if false n rest gone last = refl

pub spaces_acked : (h : List Event) (ack : Acknowledgment) (old : PerSpace SpaceState) → ((s : Space) → of_space s old ≡ space_after h s)
    → (s : Space) → of_space s (changed_in ack.space (with_largest (greatest ack.ranges)) old) ≡ space_after (Ack ack ∷ h) s
spaces_acked h ack old are s =
    changed_is h (with_largest (greatest ack.ranges)) ack.space old s (are s)
    ∙ largest_if (is_space s ack.space) (greatest ack.ranges) (flat_map (greatest_in s) h) (is_discarded h s) (last_eliciting h s)

-- ---- a discard

gone_if : (here : Bool) (x : SpaceState) → (if here then with_discarded x else x) ≡ record x { discarded = here || x.discarded }
gone_if true x = refl
gone_if false x = refl

pub spaces_discarded : (h : List Event) (time : ℕ) (space : Space) (old : PerSpace SpaceState) → ((s : Space) → of_space s old ≡ space_after h s)
    → (s : Space) → of_space s (changed_in space with_discarded old) ≡ space_after (Discard time space ∷ h) s
spaces_discarded h time space old are s = changed_is h with_discarded space old s (are s) ∙ gone_if (is_space s space) (space_after h s)

-- ---- a packet

eliciting_if : (here : Bool) (time : ℕ) (x : SpaceState) → (if here then with_eliciting time x else x) ≡ record x { last_eliciting = if here && true then Some time else x.last_eliciting }
eliciting_if true time x = refl
eliciting_if false time x = refl

not_eliciting : (here : Bool) (time : ℕ) (x : SpaceState) → x ≡ record x { last_eliciting = if here && false then Some time else x.last_eliciting }
not_eliciting true time x = refl
not_eliciting false time x = refl

elicited : (h : List Event) (time : ℕ) (space : Space) (old : PerSpace SpaceState) (s : Space) (eliciting : Bool) → of_space s old ≡ space_after h s
    → of_space s (if eliciting then changed_in space (with_eliciting time) old else old)
    ≡ record (space_after h s) { last_eliciting = if is_space s space && eliciting then Some time else last_eliciting h s }
elicited h time space old s true is = changed_is h (with_eliciting time) space old s is ∙ eliciting_if (is_space s space) time (space_after h s)
elicited h time space old s false is = is ∙ not_eliciting (is_space s space) time (space_after h s)

pub spaces_sent : (h : List Event) (packet : PacketOfEvent) (old : PerSpace SpaceState) → ((s : Space) → of_space s old ≡ space_after h s)
    → (s : Space) → of_space s (if packet.eliciting then changed_in packet.space (with_eliciting packet.time) old else old) ≡ space_after (Sent packet ∷ h) s
spaces_sent h packet old are s =
    elicited h packet.time packet.space old s packet.eliciting (are s)
    ∙ ap (λ (last : Option ℕ). record (space_after h s) { last_eliciting = last }) (sym (last_eliciting_sent h s packet))
