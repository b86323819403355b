-- The open packets that a range names, and those of several ranges.
use Rattle.std.proofs.Common.{◌≡◌, ◌∙◌, ℕ, zero, suc, ◌+◌, ◌≤◌, ◌<◌, Bool, true, false, cond, ◌&&◌, ◌||◌, List, [], ◌∷◌, ◌++◌, length, get_or, take, filter, refl, sym, ap, arith, inl, inr}
use Rattle.std.specs.List.{AllByRecursion}
use Rattle.std.proofs.lemmas.Bool.{and_parts, cases_Bool}
use Rattle.std.proofs.lemmas.Bool.Decides.{nat_tests}
use Rattle.std.proofs.lemmas.List.Elements.{filter_agree}
use Rattle.qa_base.specs.declared.space.Space.{Space}
use Rattle.qa_base.specs.values.Events.{is_space, is_named}
use Rattle.qa_sent_packets.specs.Covering.{AreApart, AreApartFrom, BeginsAbove, is_between, is_new_in}
use Rattle.qa_sent_packets.specs.Fates.{is_new, is_open, is_unacknowledged, is_waiting}
use Rattle.qa_sent_packets.specs.Held.{AreOrdered, IsBefore}
use Rattle.qa_sent_packets.specs.declared.fate.Fate.{Fate}
use Rattle.qa_sent_packets.specs.declared.fate.Fate.TheVariants.{Open, Owed, DeclaredLost, Acknowledged, Discarded}
use Rattle.qa_sent_packets.specs.declared.packet.SentPacket.{SentPacket}
use Rattle.qa_sent_packets.proofs.Alike.{space_is}
use Rattle.qa_sent_packets.proofs.Acknowledged.{named_more}
use Rattle.qa_sent_packets.proofs.Entries.{waits_here}
use Rattle.qa_sent_packets.proofs.Pushed.{space_same}

-- ---- which packets a range newly acknowledges

pub open_unacknowledged : (f : Fate) → is_open f ≡ true → is_unacknowledged f ≡ true
open_unacknowledged Open e = refl
open_unacknowledged Owed e = cc
open_unacknowledged DeclaredLost e = cc
open_unacknowledged Acknowledged e = cc
open_unacknowledged Discarded e = cc

and_true : (b : Bool) → (b && true) ≡ b
and_true true = refl
and_true false = refl

pub and_false : (b : Bool) → (b && false) ≡ false
and_false true = refl
and_false false = refl

not_by : (here unacknowledged open_here within : Bool) → (open_here ≡ true → unacknowledged ≡ true) → (here && unacknowledged) ≡ false → (here && open_here && within) ≡ false
not_by true true open_here within waits out = cc
not_by true false true within waits out = let no' : false ≡ true = waits refl in cc
not_by true false false within waits out = refl
not_by false unacknowledged open_here within waits out = refl

pub not_waiting_new : (s : Space) (lo hi : ℕ) (p : SentPacket) → is_waiting s p ≡ false → is_new_in s lo hi p ≡ false
not_waiting_new s lo hi p out = not_by (is_space s p.space) (is_unacknowledged p.fate) (is_open p.fate) (is_between lo hi p.number) (open_unacknowledged p.fate) out

pub waiting_new : (s : Space) (lo hi : ℕ) (p : SentPacket) → is_waiting s p ≡ true → is_between lo hi p.number ≡ true → is_new_in s lo hi p ≡ is_open p.fate
waiting_new s lo hi p waits within = rw (waits_here s p waits, within) (and_true (is_open p.fate))

pub outside_new : (s : Space) (lo hi : ℕ) (p : SentPacket) → is_between lo hi p.number ≡ false → is_new_in s lo hi p ≡ false
outside_new s lo hi p out = rw out (and_false (is_space s p.space && is_open p.fate))

pub one_kept : (b : Bool) (p : SentPacket) (qs : List SentPacket) → cond b (p ∷ []) [] ++ qs ≡ cond b (p ∷ qs) qs
one_kept true p qs = refl
one_kept false p qs = refl

-- ---- range by range

at_end : (lo hi n : ℕ) → is_between lo hi n ≡ true → n ≤ hi
at_end lo hi n e = grind (arith, nat_tests)

pub at_begin : (lo hi n : ℕ) → is_between lo hi n ≡ true → lo ≤ n
at_begin lo hi n e = grind (arith, nat_tests)

-- the numbers that these ranges name are below
pub named_below : (lo n : ℕ) (front : List (ℕ × ℕ)) → AllByRecursion (λ (r : ℕ × ℕ). r.1 < lo) front → is_named front n ≡ true → n < lo
named_below lo n [] below named = cc
named_below lo n (r ∷ rs) below named = elim (cases_Bool (is_between r.0 r.1 n)) [
  | inl y ↦ (let under = below.0 in let at_most = at_end r.0 r.1 n y in omega (arith, under, at_most))
  | inr out ↦ named_below lo n rs below.1 (ap (λ b. b || is_named rs n) (sym out) ∙ named)
]

mine_parts : (s : Space) (p : SentPacket) (named : Bool) → (is_space s p.space && is_open p.fate && named) ≡ true → (is_space s p.space ≡ true) × (named ≡ true)
mine_parts s p named e =
    let both = and_parts (is_space s p.space && is_open p.fate) named e in
    ((and_parts (is_space s p.space) (is_open p.fate) both.0).0, both.1)

same_back : (s t u : Space) → is_space s t ≡ true → is_space s u ≡ true → is_space t u ≡ true
same_back s t u to_t to_u = rw (sym (space_is s t to_t) ∙ space_is s u to_u) (space_same u)

-- behind a packet from lo on, none is named by ranges below lo
none_named : (s : Space) (lo : ℕ) (x : SentPacket) (front : List (ℕ × ℕ)) (ps : List SentPacket) → is_space s x.space ≡ true → lo ≤ x.number → AllByRecursion (λ (r : ℕ × ℕ). r.1 < lo) front
    → AllByRecursion (λ p. IsBefore p x) ps → filter (is_new s front) ps ≡ []
none_named s lo x front [] here from below before = refl
none_named s lo x front (p ∷ ps) here from below before = elim (cases_Bool (is_new s front p)) [
  | inl y ↦ (
      let parts = mine_parts s p (is_named front p.number) y in
      let low = named_below lo p.number front below parts.1 in
      let high = before.0.number (same_back s p.space x.space parts.0 here) in
      absurd (omega (arith, low, high, from)))
  | inr out ↦ ap (λ b. cond b (p ∷ filter (is_new s front) ps) (filter (is_new s front) ps)) out ∙ none_named s lo x front ps here from below before.1
]

pub both_step : (x : SentPacket) (mine first second both : Bool) (us vs ws : List SentPacket) → both ≡ (first || second) → (first ≡ true → second ≡ true → ⊥) → (mine ≡ true → second ≡ true → us ≡ []) → us ++ vs ≡ ws
    → cond (mine && first) (x ∷ us) us ++ cond (mine && second) (x ∷ vs) vs ≡ cond (mine && both) (x ∷ ws) ws
both_step x true true true both us vs ws is apart none rest = absurd (apart refl refl)
both_step x true true false both us vs ws is apart none rest = rw is (ap (λ ys. x ∷ ys) rest)
both_step x true false true both us vs ws is apart none rest =
    let empty : us ≡ [] = none refl refl in
    let same : vs ≡ ws = ap (λ ys. ys ++ vs) (sym empty) ∙ rest in
    rw is (ap (λ ys. ys ++ x ∷ vs) empty ∙ ap (λ ys. x ∷ ys) same)
both_step x true false false both us vs ws is apart none rest = rw is rest
both_step x false first second both us vs ws is apart none rest = rest

-- the new ones of a range above others, behind those of the others
pub new_more : (s : Space) (front : List (ℕ × ℕ)) (range : ℕ × ℕ) (ps : List SentPacket) → AllByRecursion (λ (r : ℕ × ℕ). r.1 < range.0) front → AreOrdered ps
    → filter (is_new s front) ps ++ filter (is_new_in s range.0 range.1) ps ≡ filter (is_new s (front ++ range ∷ [])) ps
new_more s front range [] below ordered = refl
new_more s front range (x ∷ ps) below ordered =
    both_step x (is_space s x.space && is_open x.fate) (is_named front x.number) (is_between range.0 range.1 x.number) (is_named (front ++ range ∷ []) x.number)
    (filter (is_new s front) ps) (filter (is_new_in s range.0 range.1) ps) (filter (is_new s (front ++ range ∷ [])) ps)
    (named_more x.number front range)
    (λ named within. let low = named_below range.0 x.number front below named in let high = at_begin range.0 range.1 x.number within in omega (arith, low, high))
    (λ mine within. none_named s range.0 x front ps (and_parts (is_space s x.space) (is_open x.fate) mine).0 (at_begin range.0 range.1 x.number within) below ordered.0)
    (new_more s front range ps below ordered.1)

-- ---- ranges that are apart

head_below : (range : ℕ × ℕ) (ranges : List (ℕ × ℕ)) (i : ℕ) (next : ℕ × ℕ) → AreApart (range ∷ ranges) → AllByRecursion (λ (r : ℕ × ℕ). r.0 ≤ r.1) (take i ranges) → i < length ranges → next ≡ get_or ranges i next → range.1 < next.0
head_below range [] i next apart forward within is = absurd (omega arith)
head_below range (r ∷ rs) zero next apart forward within is = let above = apart.0 in let start = ap (λ (x : ℕ × ℕ). x.0) is in omega (arith, above, start)
head_below range (r ∷ rs) (suc i) next apart forward within is =
    let above = apart.0 in
    let order = forward.0 in
    let rest = head_below r rs i next apart.1 forward.1 (omega arith) is in
    omega (arith, above, order, rest)

-- those before one of them end below it
pub ends_below : (ranges : List (ℕ × ℕ)) (i : ℕ) (next : ℕ × ℕ) → AreApart ranges → AllByRecursion (λ (r : ℕ × ℕ). r.0 ≤ r.1) (take i ranges) → i < length ranges → next ≡ get_or ranges i next
    → AllByRecursion (λ (r : ℕ × ℕ). r.1 < next.0) (take i ranges)
ends_below [] i next apart forward within is = absurd (omega arith)
ends_below (r ∷ rs) zero next apart forward within is = tt
ends_below (r ∷ rs) (suc i) next apart forward within is =
    (head_below r rs i next apart forward.1 (omega arith) is, ends_below rs i next apart.1 forward.1 (omega arith) is)

begins_above : (n : ℕ) (ranges : List (ℕ × ℕ)) → AreApartFrom (n + 1) ranges → BeginsAbove n ranges
begins_above n [] apart = tt
begins_above n (r ∷ rs) apart = let low = apart.0 in omega (arith, low)

pub rests_apart : (n : ℕ) (ranges : List (ℕ × ℕ)) → BeginsAbove n ranges → AreApart ranges → AreApartFrom (n + 1) ranges
rests_apart n [] above apart = tt
rests_apart n (r ∷ rs) above apart = (omega (arith, above), rests_apart r.1 rs apart.0 apart.1)

pub from_apart : (ranges : List (ℕ × ℕ)) → AreApart ranges → AreApartFrom 0 ranges
from_apart [] apart = tt
from_apart (r ∷ rs) apart = (omega arith, rests_apart r.1 rs apart.0 apart.1)

pub apart_from : (n : ℕ) (ranges : List (ℕ × ℕ)) → AreApartFrom n ranges → AreApart ranges
apart_from n [] apart = tt
apart_from n (r ∷ rs) apart = (begins_above r.1 rs apart.1, apart_from (r.1 + 1) rs apart.1)

-- ranges that name the same numbers
pub new_alike : (s : Space) (ranges others : List (ℕ × ℕ)) (ps : List SentPacket) → ((n : ℕ) → is_named ranges n ≡ is_named others n) → filter (is_new s ranges) ps ≡ filter (is_new s others) ps
new_alike s ranges others ps same = filter_agree (is_new s ranges) (is_new s others) (λ p. ap (λ b. is_space s p.space && is_open p.fate && b) (same p.number)) ps
