-- What a discard makes of the packets.
use Rattle.std.proofs.Common.{◌≡◌, ◌∙◌, ℕ, suc, ◌+◌, ◌-◌, Bool, true, false, ◌&&◌, List, [], ◌∷◌, length, map, drop, cond, sum_by, refl, sym, ap, subst, arith}
use Rattle.std.specs.Prelude.{if◌then◌else◌}
use Rattle.std.proofs.lemmas.List.{drop_all, length-map}
use Rattle.std.proofs.lemmas.List.Sums.{sum_by-cons}
use Rattle.qa_base.specs.declared.space.Space.{Space}
use Rattle.qa_base.specs.values.Events.{is_space}
use Rattle.qa_sent_packets.specs.Fates.{flight_bytes_in, is_awaiting, is_flying, is_open, is_owed, is_unacknowledged, is_waiting}
use Rattle.qa_sent_packets.specs.Held.{FirstFlies, IsSpacePackets, NoneFlies, unacknowledged_in}
use Rattle.qa_sent_packets.specs.Steps.{discarded_in, with_fate}
use Rattle.qa_sent_packets.specs.declared.fate.Fate.{Fate}
use Rattle.qa_sent_packets.specs.declared.fate.Fate.TheVariants.{Open, Owed, DeclaredLost, Acknowledged, Discarded}
use Rattle.qa_sent_packets.specs.declared.space_packets.SpacePackets.{SpacePackets}
use Rattle.qa_sent_packets.specs.declared.packet.SentPacket.{SentPacket}
use Rattle.qa_sent_packets.proofs.Alike.{IsAlike, IsSame, alike_if, alike_other, not_other, same_if}
use Rattle.qa_sent_packets.proofs.Entries.{not_waiting, waits_here}
use Rattle.qa_sent_packets.proofs.Parts.{each_take}

-- ---- what becomes of one packet

pub discarded_same : (s : Space) (p : SentPacket) → IsSame p (discarded_in s p)
discarded_same s p = same_if (is_waiting s p) Discarded p

pub discarded_alike : (s t : Space) → is_space t s ≡ false → (p : SentPacket) → IsAlike t p (discarded_in s p)
discarded_alike s t out p = alike_if t (is_waiting s p) Discarded p (λ waits. alike_other t Discarded p (not_other t s p out (waits_here s p waits)))

settled_if : (p : SentPacket) (b : Bool) → is_owed p.fate ≡ false → is_owed ((if b then with_fate Discarded p else p).fate) ≡ false
settled_if p true none = refl
settled_if p false none = none

pub discarded_not_owed : (s : Space) (p : SentPacket) → is_owed p.fate ≡ false → is_owed (discarded_in s p).fate ≡ false
discarded_not_owed s p none = settled_if p (is_waiting s p) none

gone_if : (s : Space) (p : SentPacket) (b : Bool) → is_waiting s p ≡ b → is_waiting s (if b then with_fate Discarded p else p) ≡ false
gone_if s p true is = not_waiting s Discarded p refl
gone_if s p false is = is

-- none of the space waits
gone : (s : Space) (p : SentPacket) → is_waiting s (discarded_in s p) ≡ false
gone s p = gone_if s p (is_waiting s p) refl

-- ---- one that does not wait adds nothing

open_waits : (f : Fate) → is_open f ≡ true → is_unacknowledged f ≡ true
open_waits Open e = refl
open_waits Owed e = cc
open_waits DeclaredLost e = cc
open_waits Acknowledged e = cc
open_waits Discarded e = cc

flies_if : (here in_flight opens waits : Bool) → (opens ≡ true → waits ≡ true) → (here && waits) ≡ false → (here && (in_flight && opens)) ≡ false
flies_if true true true waits goes out = let yes : waits ≡ true = goes refl in sym yes ∙ out
flies_if true true false waits goes out = refl
flies_if true false opens waits goes out = refl
flies_if false in_flight opens waits goes out = refl

pub grounded : (s : Space) (p : SentPacket) → is_waiting s p ≡ false → is_flying s p ≡ false
grounded s p out = flies_if (is_space s p.space) p.in_flight (is_open p.fate) (is_unacknowledged p.fate) (open_waits p.fate) out

not_awaiting : (s : Space) (p : SentPacket) → is_waiting s p ≡ false → is_awaiting s p ≡ false
not_awaiting s p out = flies_if (is_space s p.space) p.eliciting (is_open p.fate) (is_unacknowledged p.fate) (open_waits p.fate) out

bytes_if : (here flies : Bool) (n : ℕ) → (here && flies) ≡ false → (if here then (if flies then n else 0) else 0) ≡ 0
bytes_if true true n out = cc
bytes_if true false n out = refl
bytes_if false flies n out = refl

pub no_bytes : (s : Space) (p : SentPacket) → is_waiting s p ≡ false → flight_bytes_in s p ≡ 0
no_bytes s p out = bytes_if (is_space s p.space) (p.in_flight && is_open p.fate) p.size (grounded s p out)

-- ---- what becomes of all

no_entries : (s : Space) (place : ℕ) (ps : List SentPacket) → unacknowledged_in s place (map (discarded_in s) ps) ≡ []
no_entries s place [] = refl
no_entries s place (p ∷ ps) =
    let rest = unacknowledged_in s (suc place) (map (discarded_in s) ps) in
    ap (λ b. if b then ((discarded_in s p).number, place) ∷ rest else rest) (gone s p) ∙ no_entries s (suc place) ps

no_sum : (weight : SentPacket → ℕ) (s : Space) → ((p : SentPacket) → is_waiting s p ≡ false → weight p ≡ 0) → (ps : List SentPacket) → sum_by weight (map (discarded_in s) ps) ≡ 0
no_sum weight s none [] = refl
no_sum weight s none (p ∷ ps) =
    let q = discarded_in s p in
    let sum : sum_by weight (q ∷ map (discarded_in s) ps) ≡ weight q + sum_by weight (map (discarded_in s) ps) = sum_by-cons weight q (map (discarded_in s) ps) in
    let here : weight q ≡ 0 = none q (gone s p) in
    let rest = no_sum weight s none ps in
    omega (arith, sum, here, rest)

none_flies : (s : Space) (ps : List SentPacket) → NoneFlies s (map (discarded_in s) ps)
none_flies s [] = tt
none_flies s (p ∷ ps) = (grounded s (discarded_in s p) (gone s p), none_flies s ps)

counts_none : (s : Space) (p : SentPacket) → is_waiting s p ≡ false → ◌≡◌ {A = ℕ} (cond (is_awaiting s p) 1 0) 0
counts_none s p out = ap (λ b. cond b 1 0) (not_awaiting s p out)

-- what is kept for a space in which all was let go is that of the packets of which none waits
pub space_packets_cleared : (s : Space) (d : ℕ) (ps : List SentPacket) (space_packets : SpacePackets) → space_packets.unacknowledged.entries ≡ [] → space_packets.in_flight ≡ 0 → space_packets.awaiting ≡ 0 → space_packets.next ≡ d + length ps
    → IsSpacePackets s d (map (discarded_in s) ps) space_packets
space_packets_cleared s d ps space_packets entries in_flight awaiting next =
    let f = discarded_in s in
    let long : length (map f ps) ≡ length ps = length-map ps f in
    let all : drop (space_packets.next - d) (map f ps) ≡ [] = drop_all (space_packets.next - d) (map f ps) (omega (arith, long, next)) in
    record {
      indexed = record {
        entries = entries ∙ sym (no_entries s d ps);
        in_flight = in_flight ∙ sym (no_sum (flight_bytes_in s) s (no_bytes s) ps);
        awaiting = awaiting ∙ sym (no_sum (λ p. cond (is_awaiting s p) 1 0) s (counts_none s) ps);
      };
      behind = record {
        low = omega (arith, next);
        high = omega (arith, next, long);
        none = each_take (λ p. is_flying s p ≡ false) (map f ps) (space_packets.next - d) (none_flies s ps);
      };
      first = subst (FirstFlies s) (sym all) tt;
    }
