-- What the packets of a space add to its sums, and what a write, or a packet more, changes.
use Rattle.std.proofs.Common.{◌≡◌, ◌∙◌, ℕ, zero, suc, ◌+◌, ◌*◌, ◌^◌, ◌≤◌, ◌<◌, Bool, true, false, cond, ◌&&◌, List, [], ◌∷◌, ◌++◌, length, get_or, set, count_by, sum_by, refl, sym, ap, arith}
use Rattle.std.specs.Prelude.{if◌then◌else◌}
use Rattle.std.specs.List.{AllByRecursion}
use Rattle.std.specs.Map.{remove_entry}
use Rattle.std.specs.BTreeMap.{is_at}
use Rattle.std.specs.Ordering.{nat_cmp}
use Rattle.std.proofs.lemmas.List.Sums.{sum_by-set, sum_by-cons, sum_by-append}
use Rattle.qa_base.specs.declared.space.Space.{Space}
use Rattle.qa_base.specs.values.Events.{is_space}
use Rattle.qa_base.specs.values.Limits.{max_packet_size}
use Rattle.qa_sent_packets.specs.Fates.{flight_bytes, flight_bytes_in, is_awaiting, is_open, is_unacknowledged}
use Rattle.qa_sent_packets.specs.Held.{IsIndexed}
use Rattle.qa_sent_packets.specs.BySpace.{awaiting_count}
use Rattle.qa_sent_packets.specs.Steps.{with_fate}
use Rattle.qa_sent_packets.specs.declared.fate.Fate.{Fate}
use Rattle.qa_sent_packets.specs.declared.fate.Fate.TheVariants.{Open, Owed, DeclaredLost, Acknowledged, Discarded}
use Rattle.qa_sent_packets.specs.declared.space_packets.SpacePackets.{SpacePackets}
use Rattle.qa_sent_packets.specs.declared.packet.SentPacket.{SentPacket}
use Rattle.qa_sent_packets.proofs.Entries.{IsFound, found_here}

-- what a packet adds to the count of those of the space that are open and ack-eliciting
abbrev pub awaiting_in : Space → SentPacket → ℕ
awaiting_in s p = cond (is_awaiting s p) 1 0

-- ---- any sum

pub sum_written : (f : SentPacket → ℕ) (ps : List SentPacket) (at : ℕ) (p x : SentPacket) → at < length ps → p ≡ get_or ps at p → sum_by f (set ps at x) + f p ≡ sum_by f ps + f x
sum_written f ps at p x within is = ap (λ (z : SentPacket). sum_by f (set ps at x) + f z) is ∙ sum_by-set f ps at x p within

-- a packet in a list adds no more than all
pub weighs : (f : SentPacket → ℕ) (ps : List SentPacket) (at : ℕ) (p : SentPacket) → at < length ps → p ≡ get_or ps at p → f p ≤ sum_by f ps
weighs f [] at p within is = absurd (omega arith)
weighs f (x ∷ ps) zero p within is = let e : f p ≡ f x = ap f is in let s : sum_by f (x ∷ ps) ≡ f x + sum_by f ps = sum_by-cons f x ps in omega (arith, e, s)
weighs f (x ∷ ps) (suc at) p within is = let rest = weighs f ps at p (omega arith) is in let s : sum_by f (x ∷ ps) ≡ f x + sum_by f ps = sum_by-cons f x ps in omega (arith, rest, s)

pub sum_push : (f : SentPacket → ℕ) (ps : List SentPacket) (p : SentPacket) → sum_by f (ps ++ p ∷ []) ≡ sum_by f ps + f p
sum_push f ps p = let a = sum_by-append f ps (p ∷ []) in let b : sum_by f (p ∷ []) ≡ f p + sum_by f [] = sum_by-cons f p [] in omega (arith, a, b)

pub sum_push_none : (f : SentPacket → ℕ) (ps : List SentPacket) (p : SentPacket) → f p ≡ 0 → sum_by f (ps ++ p ∷ []) ≡ sum_by f ps
sum_push_none f ps p none = let s = sum_push f ps p in omega (arith, s, none)

pub sum_front : (f : SentPacket → ℕ) (p : SentPacket) (ps : List SentPacket) → f p ≡ 0 → sum_by f (p ∷ ps) ≡ sum_by f ps
sum_front f p ps none = let s : sum_by f (p ∷ ps) ≡ f p + sum_by f ps = sum_by-cons f p ps in omega (arith, none, s)

-- ---- the sums of a space

pub bytes_here : (s : Space) (p : SentPacket) → is_space s p.space ≡ true → flight_bytes_in s p ≡ flight_bytes p
bytes_here s p here = rw here refl

pub awaiting_here : (s : Space) (p : SentPacket) → is_space s p.space ≡ true → awaiting_in s p ≡ awaiting_count p
awaiting_here s p here = rw here refl

pub bytes_elsewhere : (s : Space) (p : SentPacket) → is_space s p.space ≡ false → flight_bytes_in s p ≡ 0
bytes_elsewhere s p out = rw out refl

pub awaiting_elsewhere : (s : Space) (p : SentPacket) → is_space s p.space ≡ false → awaiting_in s p ≡ 0
awaiting_elsewhere s p out = rw out refl

none_where : (b : Bool) (n : ℕ) → (if b && false then n else 0) ≡ 0
none_where true n = refl
none_where false n = refl

no_bytes : (p : SentPacket) → is_open p.fate ≡ false → flight_bytes p ≡ 0
no_bytes p closed = rw closed (none_where p.in_flight p.size)

zero_if : (b : Bool) (n : ℕ) → n ≡ 0 → (if b then n else 0) ≡ 0
zero_if true n is = is
zero_if false n is = refl

not_last : (a b c : Bool) → c ≡ false → (a && (b && c)) ≡ false
not_last true true c is = is
not_last true false c is = refl
not_last false b c is = refl

-- a packet that is not open adds nothing
pub closed_bytes : (s : Space) (p : SentPacket) → is_open p.fate ≡ false → flight_bytes_in s p ≡ 0
closed_bytes s p closed = zero_if (is_space s p.space) (flight_bytes p) (no_bytes p closed)

pub closed_awaiting : (s : Space) (p : SentPacket) → is_open p.fate ≡ false → awaiting_in s p ≡ 0
closed_awaiting s p closed = rw (not_last (is_space s p.space) p.eliciting (is_open p.fate) closed) refl

-- a packet of the space adds no more than the sums are
pub record IsWeighed (space_packets : SpacePackets) (p : SentPacket) : Type 0 where
  pub bytes : flight_bytes p ≤ space_packets.in_flight
  pub awaiting : awaiting_count p ≤ space_packets.awaiting

pub weighed : (s : Space) (d : ℕ) (ps : List SentPacket) (space_packets : SpacePackets) (at : ℕ) (p : SentPacket) → IsIndexed s d ps space_packets → at < length ps → p ≡ get_or ps at p → is_space s p.space ≡ true → IsWeighed space_packets p
weighed s d ps space_packets at p indexed within is here =
    let b = weighs (flight_bytes_in s) ps at p within is in let b' = bytes_here s p here in
    let a = weighs (awaiting_in s) ps at p within is in let a' = awaiting_here s p here in
    record { bytes = omega (arith, b, b', indexed.in_flight); awaiting = omega (arith, a, a', indexed.awaiting) }

-- ---- a packet that is open no more

leaves_sum : (f : SentPacket → ℕ) (ps : List SentPacket) (at : ℕ) (p x : SentPacket) (before after : ℕ) → at < length ps → p ≡ get_or ps at p → f x ≡ 0 → before ≡ sum_by f ps → after + f p ≡ before → after ≡ sum_by f (set ps at x)
leaves_sum f ps at p x before after within is none was left = let w = sum_written f ps at p x within is in omega (arith, w, none, was, left)

pub record IsTakenOff (s : Space) (ps : List SentPacket) (space_packets : SpacePackets) : Type 0 where
  pub in_flight : space_packets.in_flight ≡ sum_by (flight_bytes_in s) ps
  pub awaiting : space_packets.awaiting ≡ count_by (is_awaiting s) ps

-- the sums without a packet of the space that is written with a fate that is not open
pub taken_off : (s : Space) (d : ℕ) (ps : List SentPacket) (before after : SpacePackets) (at : ℕ) (p : SentPacket) (f : Fate) → is_open f ≡ false → IsIndexed s d ps before → at < length ps → p ≡ get_or ps at p → is_space s p.space ≡ true
    → after.in_flight + flight_bytes p ≡ before.in_flight → after.awaiting + awaiting_count p ≡ before.awaiting
    → IsTakenOff s (set ps at (with_fate f p)) after
taken_off s d ps before after at p f closed indexed within is here less_bytes less_awaiting =
    let b = bytes_here s p here in let a = awaiting_here s p here in
    record {
      in_flight = leaves_sum (flight_bytes_in s) ps at p (with_fate f p) before.in_flight after.in_flight within is (closed_bytes s (with_fate f p) closed) indexed.in_flight (omega (arith, b, less_bytes));
      awaiting = leaves_sum (awaiting_in s) ps at p (with_fate f p) before.awaiting after.awaiting within is (closed_awaiting s (with_fate f p) closed) indexed.awaiting (omega (arith, a, less_awaiting));
    }

open_not : (f : Fate) → is_unacknowledged f ≡ false → is_open f ≡ false
open_not Open e = cc
open_not Owed e = refl
open_not DeclaredLost e = refl
open_not Acknowledged e = refl
open_not Discarded e = refl

-- the map and the sums without a packet that an entry leads to, which is written with a fate of which no entry is kept
pub entry_closed : (s : Space) (d : ℕ) (ps : List SentPacket) (before after : SpacePackets) (n at : ℕ) (p : SentPacket) (f : Fate) → is_unacknowledged f ≡ false → IsIndexed s d ps before → IsFound s d n at ps → p ≡ get_or ps at p
    → after.unacknowledged.entries ≡ remove_entry (is_at (nat_cmp n)) before.unacknowledged.entries
    → after.in_flight + flight_bytes p ≡ before.in_flight → after.awaiting + awaiting_count p ≡ before.awaiting
    → IsIndexed s d (set ps at (with_fate f p)) after
entry_closed s d ps before after n at p f out indexed found is entries less_bytes less_awaiting =
    let off = taken_off s d ps before after at p f (open_not f out) indexed found.within is (found_here s d n at ps p found is) less_bytes less_awaiting in
    record {
      entries = entries ∙ (ap (remove_entry (is_at (nat_cmp n))) indexed.entries ∙ sym (found.written f p out is));
      in_flight = off.in_flight;
      awaiting = off.awaiting;
    }

-- ---- how great they are

bytes_if : (b : Bool) (n : ℕ) → (if b then n else 0) ≤ n
bytes_if true n = omega arith
bytes_if false n = omega arith

bytes_small : (s : Space) (p : SentPacket) → p.size ≤ max_packet_size → flight_bytes_in s p ≤ max_packet_size
bytes_small s p small = let a = bytes_if (is_space s p.space) (flight_bytes p) in let b = bytes_if (p.in_flight && is_open p.fate) p.size in omega (arith, a, b, small)

pub sum_bounded : (s : Space) (ps : List SentPacket) → AllByRecursion (λ (p : SentPacket). p.size ≤ max_packet_size) ps → sum_by (flight_bytes_in s) ps ≤ length ps * max_packet_size
sum_bounded s [] small = omega arith
sum_bounded s (p ∷ ps) small =
    let sum : sum_by (flight_bytes_in s) (p ∷ ps) ≡ flight_bytes_in s p + sum_by (flight_bytes_in s) ps = sum_by-cons (flight_bytes_in s) p ps in
    let here = bytes_small s p small.0 in
    let rest = sum_bounded s ps small.1 in
    omega (arith, sum, here, rest)

awaiting_small : (b : Bool) → cond b 1 0 ≤ 1
awaiting_small true = omega arith
awaiting_small false = omega arith

pub awaiting_bounded : (s : Space) (ps : List SentPacket) → count_by (is_awaiting s) ps ≤ length ps
awaiting_bounded s [] = omega arith
awaiting_bounded s (p ∷ ps) =
    let sum : sum_by (awaiting_in s) (p ∷ ps) ≡ awaiting_in s p + sum_by (awaiting_in s) ps = sum_by-cons (awaiting_in s) p ps in
    let here : awaiting_in s p ≤ 1 = awaiting_small (is_awaiting s p) in
    let rest : sum_by (awaiting_in s) ps ≤ length ps = awaiting_bounded s ps in
    omega (arith, sum, here, rest)

-- there is room in the sum for one packet more
pub bytes_fit : (s : Space) (d : ℕ) (ps : List SentPacket) (space_packets : SpacePackets) (p : SentPacket) → IsIndexed s d ps space_packets → AllByRecursion (λ (q : SentPacket). q.size ≤ max_packet_size) ps → d + length ps < 4294967295 → p.size ≤ max_packet_size
    → space_packets.in_flight + flight_bytes p < 2 ^ 64
bytes_fit s d ps space_packets p indexed sizes few small =
    let all = sum_bounded s ps sizes in
    let one = bytes_if (p.in_flight && is_open p.fate) p.size in
    omega (arith, all, one, few, small, indexed.in_flight)
