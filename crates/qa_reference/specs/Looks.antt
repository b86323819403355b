-- What is found out of a history once, before its packets are asked.
use Rattle.std.specs.Prelude.{◌≡◌, ◌&&◌, ◌||◌, ℕ, Bool, false, List, ◌∷◌, Option, Some, None}
use Rattle.std.specs.Prelude.{filter}
use Rattle.std.specs.List.{list_any}
use Rattle.qa_base.specs.declared.event.Event.{Event}
use Rattle.qa_base.specs.declared.event.Event.TheVariants.{Lost}
use Rattle.qa_base.specs.declared.space.Space.{Space}
use Rattle.qa_base.specs.machine.Estimates.{sampled}
use Rattle.qa_base.specs.machine.Detection.{detection_by, is_past_threshold, is_unsettled}
use Rattle.qa_base.specs.machine.Detection.{may_be_spared}
use Rattle.qa_base.specs.machine.Breaches.{numbers}
use Rattle.qa_base.specs.machine.Packets.{Packet, packets, is_of, largest_acknowledged}
use Rattle.qa_base.specs.machine.Rtt.{Estimate}
use Rattle.qa_base.specs.values.Events.{declares_lost}
use Rattle.qa_base.specs.values.Settings.{Settings}

-- the estimate, where and when the last event looks for losses, the largest number acknowledged
-- there, and the header
pub record Seen : Type 0 where
  pub rtt : Estimate
  pub detection : Option (Space × ℕ)
  pub largest : Option ℕ
  pub header : Settings

abbrev pub largest_there : List Event → Option (Space × ℕ) → Option ℕ
largest_there h None = None
largest_there h (Some (s, now)) = largest_acknowledged h s

-- this is seen of the history by an estimate
abbrev pub IsSeen : Settings → Estimate → List Event → Seen → Type 0
IsSeen c r h look =
    (look.rtt ≡ r) × (look.detection ≡ detection_by c r h)
    × (look.largest ≡ largest_there h (detection_by c r h)) × (look.header ≡ c)

-- .. by that by which the losses of its last event are found
abbrev pub IsLook : Settings → List Event → Seen → Type 0
IsLook c h look = IsSeen c (sampled c h) h look

-- a detection there and then, with this estimate and largest number, finds the packet lost
abbrev pub is_found_where : Settings → List Event → Estimate → Option ℕ → Packet
    → Option (Space × ℕ) → Bool
is_found_where c h r largest p None = false
is_found_where c h r largest p (Some (s, now)) =
    is_of s p && (p.in_flight && is_unsettled h p && is_past_threshold c r h now largest p)

-- by what is seen, the last event found the packet lost
abbrev pub is_found_by : List Event → Seen → Packet → Bool
is_found_by h look p = is_found_where look.header h look.rtt look.largest p look.detection

-- the packets of a part of the history that it found lost
abbrev pub found_in : List Event → Seen → List Event → List Packet
found_in h look part = filter (is_found_by h look) (packets part)

-- their numbers
abbrev pub numbers_found : List Event → Seen → List Event → List ℕ
numbers_found h look part = numbers (found_in h look part)

-- ---- what is free

-- a detection there and then leaves it to the sender whether the packet is lost
abbrev pub is_left_where : Settings → List Event → Estimate → Option ℕ → Packet → Option (Space × ℕ)
    → Bool
is_left_where c h r largest p None = false
is_left_where c h r largest p (Some (s, now)) =
    is_of s p && (p.in_flight && is_unsettled h p && may_be_spared c r h now largest p)

-- by what is seen, the last event did
abbrev pub is_left_by : List Event → Seen → Packet → Bool
is_left_by h look p = is_left_where look.header h look.rtt look.largest p look.detection

-- the next Lost line may name the packet
abbrev pub is_nameable_by : List Event → Seen → Packet → Bool
is_nameable_by h look p = is_found_by h look p || is_left_by h look p

-- the packets of a part of the history that it may name
abbrev pub nameable_in : List Event → Seen → List Event → List Packet
nameable_in h look part = filter (is_nameable_by h look) (packets part)

-- their numbers
abbrev pub numbers_nameable : List Event → Seen → List Event → List ℕ
numbers_nameable h look part = numbers (nameable_in h look part)

-- ---- what is lost by the last event

-- what is seen where it is a Lost line of the history before it, and whether it names a packet that
-- was free; else what is seen
pub record SeenLosses : Type 0 where
  pub look : Seen
  pub completes : Bool

-- the event names the packet, which is free
abbrev pub is_named_by : List Event → Seen → Event → Packet → Bool
is_named_by h look e p = is_left_by h look p && declares_lost p.space p.number e

-- the packet is owed, or free and named
abbrev pub is_taken_by : List Event → Seen → Event → Packet → Bool
is_taken_by h look e p = is_found_by h look p || is_named_by h look e p

-- this is seen
abbrev pub AreSeen : Settings → List Event → SeenLosses → Type 0
AreSeen c (Lost time space ranges ∷ before) losses =
    IsSeen c (sampled c (Lost time space ranges ∷ before)) before losses.look
    × (losses.completes ≡ list_any (is_named_by before losses.look (Lost time space ranges))
    (packets before))
AreSeen c h losses = IsLook c h losses.look × Unit {0}

-- by what is seen, the packet is lost by the last event
abbrev pub is_lost_by : List Event → SeenLosses → Packet → Bool
is_lost_by (Lost time space ranges ∷ before) losses p =
    losses.completes && is_taken_by before losses.look (Lost time space ranges) p
is_lost_by h losses p = is_found_by h losses.look p

-- the packets of a part of the history that are
abbrev pub lost_in : List Event → SeenLosses → List Event → List Packet
lost_in h losses part = filter (is_lost_by h losses) (packets part)
