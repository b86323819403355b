-- Packets that are declared lost, and what lines tell of them.
use Rattle.std.specs.Prelude.{◌≡◌, ◌≤◌, ◌+◌, ◌&&◌, ◌||◌, ◌++◌, ℕ, nat_eq, nat_le, Bool, false}
use Rattle.std.specs.Prelude.{List, [], ◌∷◌, ⊤, Option, Some, None, filter, flat_map, map, not}
use Rattle.std.specs.Prelude.{if◌then◌else◌}
use Rattle.std.specs.BTreeSet.{contains}
use Rattle.std.specs.List.{AllByRecursion, count_by, list_any}
use Rattle.std.specs.Ordering.{nat_cmp}
use Rattle.qa_base.specs.declared.event.Event.{Event}
use Rattle.qa_base.specs.declared.per_space.PerSpace.{PerSpace}
use Rattle.qa_base.specs.declared.space.Space.{Space}
use Rattle.qa_base.specs.values.Events.{fits, is_named, is_space}
use Rattle.qa_base.specs.values.Limits.{max_packet_number}
use Rattle.qa_base.specs.values.PerSpace.{of_space}
use Rattle.qa_convert.specs.Marks.{Marks}
use Rattle.qa_convert.specs.Telling.{LostLine, Told, with_event}
use Rattle.qa_convert.specs.declared.bare.Bare.{Bare}
use Rattle.qa_convert.specs.declared.event.LoggedEvent.{LoggedEvent}
use Rattle.qa_convert.specs.declared.event.LostPacket.{LostPacket}
use Rattle.qa_convert.specs.declared.event.Said.{Said}
use Rattle.qa_convert.specs.declared.event.Said.TheVariants as said
use Rattle.qa_convert.specs.declared.groups.About.{About}
use Rattle.qa_convert.specs.declared.groups.About.TheVariants as about
use Rattle.qa_convert.specs.declared.groups.LostAt.{LostAt}

-- ---- losses

-- the loss is that of this number of this space
abbrev pub is_of : Space → ℕ → LostPacket → Bool
is_of s n p = is_space s p.space && nat_eq n p.number

-- one of the losses is
abbrev pub is_among : Space → ℕ → List LostPacket → Bool
is_among s n ps = list_any (is_of s n) ps

-- how many of the losses are
abbrev pub times_lost : Space → ℕ → List LostPacket → ℕ
times_lost s n ps = count_by (is_of s n) ps

-- losses, without where and when the log has them
abbrev pub packets_of : List LostAt → List LostPacket
packets_of ls = map (λ l. l.lost) ls

-- the loss that an event declares, if it declares one
abbrev pub lost_said : Said → List LostPacket
lost_said (said.Lost p) = p ∷ []
lost_said _ = []

-- the losses that events declare
abbrev pub lost_in : List LoggedEvent → List LostPacket
lost_in es = flat_map (λ e. lost_said e.said) es

-- those of a space
abbrev pub in_space : Space → List LostPacket → List LostPacket
in_space s ps = filter (λ p. is_space s p.space) ps

-- ---- packets that are not in flight

-- the packet is one of the last that were sent and are not in flight
abbrev pub is_bare : PerSpace Bare → Space → ℕ → Bool
is_bare bare s n = contains nat_cmp (of_space s bare).numbers n

-- the losses, except those of such packets
abbrev pub in_flight : PerSpace Bare → List LostPacket → List LostPacket
in_flight bare ps = filter (λ p. not (is_bare bare p.space p.number)) ps

-- ---- lines

-- the line names this number of this space
abbrev pub names : Space → ℕ → LostLine → Bool
names s n l = is_space s l.space && is_named l.ranges n

-- one of the lines names it
abbrev pub is_told : Space → ℕ → List LostLine → Bool
is_told s n ls = list_any (names s n) ls

-- how many of the lines name it
abbrev pub times_told : Space → ℕ → List LostLine → ℕ
times_told s n ls = count_by (names s n) ls

-- what is told once an event is, too, if a line can say it
abbrev pub with_fit : Told → Marks → Event → Told
with_fit t m e = if fits e then with_event t m e else t

-- there are more lines of losses: they name these packets and no others, and none more often than
-- it is among these
pub record Names (ps : List LostPacket) (before after : Told) : Type 0 where
  pub lines : List LostLine
  pub told : after.lost ≡ before.lost ++ lines
  pub same : (s : Space) (n : ℕ) → is_told s n lines ≡ is_among s n ps
  pub few : (s : Space) (n : ℕ) → times_told s n lines ≤ times_lost s n ps

-- there may be more lines of losses: they name no packet more often than it is among the first of
-- these losses, and the second are still to be named
pub record Leaves (ps left : List LostPacket) (before after : Told) : Type 0 where
  pub lines : List LostLine
  pub told : after.lost ≡ before.lost ++ lines
  pub few : (s : Space) (n : ℕ) → times_told s n lines + times_lost s n left ≤ times_lost s n ps

-- there may be more lines of losses: they name no packet more often than it is among these losses,
-- so none that is not
abbrev pub NamesOnly : List LostPacket → Told → Told → Type 0
NamesOnly ps before after = Leaves ps [] before after

-- what the lines of a group tell of losses: they name packets only that the log declares lost in it
-- or beside it; if no packet came, they name each, except packets that are not in flight
abbrev pub Declares : PerSpace Bare → About → List LoggedEvent → Told → Told → Type 0
Declares bare (about.Sent ps) es before after = after.lost ≡ before.lost
Declares bare (about.Received p ls) es before after =
    NamesOnly (packets_of ls.items ++ lost_in es) before after
Declares bare (about.Lost ls) es before after =
    Names (in_flight bare (packets_of ls.items ++ lost_in es)) before after
Declares bare (about.Expired at timer) es before after =
    Names (in_flight bare (lost_in es)) before after
Declares bare (about.Other e) es before after = after.lost ≡ before.lost

-- ---- numbers and spans

-- each may be the number of a packet
abbrev pub ArePacketNumbers : List ℕ → Type 0
ArePacketNumbers ns = AllByRecursion (λ n. n ≤ max_packet_number) ns

-- the number is in the list
abbrev pub is_in : ℕ → List ℕ → Bool
is_in n ns = list_any (nat_eq n) ns

-- the last span, if there is one, is of packet numbers
abbrev pub IsSpan : Option (ℕ × ℕ) → Type 0
IsSpan None = ⊤
IsSpan (Some span) = (span.0 ≤ span.1) × (span.1 ≤ max_packet_number)

-- the last span holds the number
abbrev pub is_last : Option (ℕ × ℕ) → ℕ → Bool
is_last None n = false
is_last (Some span) n = nat_le span.0 n && nat_le n span.1

-- one of the spans holds the number, or the last
abbrev pub has_number : List (ℕ × ℕ) → Option (ℕ × ℕ) → ℕ → Bool
has_number spans last n = is_named spans n || is_last last n

-- spans, and after them another if it is of packet numbers
abbrev pub pushed : ℕ → ℕ → List (ℕ × ℕ) → List (ℕ × ℕ)
pushed low high spans =
    if nat_le low max_packet_number && nat_le high max_packet_number && nat_le low high
    then spans ++ (low, high) ∷ []
    else spans
