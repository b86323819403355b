-- What one walk along the unacknowledged packets of a space finds newly acknowledged.
use Rattle.std.proofs.Common.{◌≡◌, ◌∙◌, ℕ, zero, suc, ◌+◌, ◌≤◌, ◌<◌, Bool, true, false, cond, ◌&&◌, List, [], ◌∷◌, ◌++◌, length, get_or, set, map, filter, refl, sym, ap, subst, arith, add-one, inl, inr, Option, Some, None}
use Rattle.std.specs.Prelude.{if◌then◌else◌}
use Rattle.std.specs.List.{AllByRecursion}
use Rattle.std.proofs.lemmas.Bool.{and_parts, cases_Bool}
use Rattle.qa_base.specs.declared.space.Space.{Space}
use Rattle.qa_base.specs.values.Events.{is_space, is_named}
use Rattle.qa_sent_packets.specs.Covering.{AreApart, first_between, is_between, is_new_in}
use Rattle.qa_sent_packets.specs.Fates.{is_open, is_waiting}
use Rattle.qa_sent_packets.specs.Held.{unacknowledged_in}
use Rattle.qa_sent_packets.specs.Steps.{covered_by, with_fate}
use Rattle.qa_sent_packets.specs.declared.fate.Fate.TheVariants.{Acknowledged}
use Rattle.qa_sent_packets.specs.declared.packet.SentPacket.{SentPacket}
use Rattle.qa_sent_packets.proofs.Entries.{first_alone, found_at}
use Rattle.qa_sent_packets.proofs.Rising.{below_out}
use Rattle.qa_sent_packets.proofs.Opened.{named_below, not_waiting_new, one_kept, outside_new, waiting_new}

-- ---- a packet that is covered

off_by : (a c : Bool) → ((a && false) && c) ≡ false
off_by true c = refl
off_by false c = refl

covered_not_new : (s : Space) (lo hi : ℕ) (p : SentPacket) → is_new_in s lo hi (with_fate Acknowledged p) ≡ false
covered_not_new s lo hi p = off_by (is_space s p.space) (is_between lo hi p.number)

here : (s : Space) (lo hi at : ℕ) (x p : SentPacket) (ps : List SentPacket) → is_waiting s x ≡ true → is_between lo hi x.number ≡ true → at ≡ 0 → p ≡ get_or (x ∷ ps) at p
    → filter (λ (q : SentPacket). is_open q.fate) (p ∷ []) ++ filter (is_new_in s lo hi) (set (x ∷ ps) at (with_fate Acknowledged p)) ≡ filter (is_new_in s lo hi) (x ∷ ps)
here s lo hi zero x p ps y k first is =
    let fs = filter (is_new_in s lo hi) ps in
    ap (λ b. filter (λ (q : SentPacket). is_open q.fate) (p ∷ []) ++ cond b (with_fate Acknowledged p ∷ fs) fs) (covered_not_new s lo hi p)
    ∙ (one_kept (is_open p.fate) p fs
    ∙ (ap (λ (q : SentPacket). cond (is_open q.fate) (q ∷ fs) fs) is
    ∙ ap (λ b. cond b (x ∷ fs) fs) (sym (waiting_new s lo hi x y k))))
here s lo hi (suc at) x p ps y k first is = absurd (omega (arith, first))

later : (s : Space) (d lo hi place at : ℕ) (x p : SentPacket) (ps : List SentPacket) → is_new_in s lo hi x ≡ false → suc d ≤ place → place ≡ d + at → p ≡ get_or (x ∷ ps) at p
    → ((k : ℕ) → place ≡ suc d + k → p ≡ get_or ps k p
    → filter (λ (q : SentPacket). is_open q.fate) (p ∷ []) ++ filter (is_new_in s lo hi) (set ps k (with_fate Acknowledged p)) ≡ filter (is_new_in s lo hi) ps)
    → filter (λ (q : SentPacket). is_open q.fate) (p ∷ []) ++ filter (is_new_in s lo hi) (set (x ∷ ps) at (with_fate Acknowledged p)) ≡ filter (is_new_in s lo hi) (x ∷ ps)
later s d lo hi place zero x p ps out low there is rest = absurd (omega (arith, low, there))
later s d lo hi place (suc at) x p ps out low there is rest =
    let before = filter (is_new_in s lo hi) ps in
    let after = filter (is_new_in s lo hi) (set ps at (with_fate Acknowledged p)) in
    ap (λ b. filter (λ (q : SentPacket). is_open q.fate) (p ∷ []) ++ cond b (x ∷ after) after) out
    ∙ (rest at (omega (arith, there)) is ∙ ap (λ b. cond b (x ∷ before) before) (sym out))

-- the first entry of a range leads to the first packet that is new in it, if it is open
pub new_written : (s : Space) (d lo hi n place at : ℕ) (ps : List SentPacket) (p : SentPacket) → first_between lo hi (unacknowledged_in s d ps) ≡ Some (n, place) → place ≡ d + at → p ≡ get_or ps at p
    → filter (λ (q : SentPacket). is_open q.fate) (p ∷ []) ++ filter (is_new_in s lo hi) (set ps at (with_fate Acknowledged p)) ≡ filter (is_new_in s lo hi) ps
new_written s d lo hi n place at [] p e there is = cc
new_written s d lo hi n place at (x ∷ ps) p e there is = elim (cases_Bool (is_waiting s x)) [
  | inl y ↦ elim (cases_Bool (is_between lo hi x.number)) [
    | inl k ↦ (
        let got : ◌≡◌ {A = Option (ℕ × ℕ)} (Some (x.number, d)) (Some (n, place)) = rw (y, k) at e in
        let first : d ≡ place = ap (λ (o : Option (ℕ × ℕ)). elim o [ None ↦ 0 | Some z ↦ z.1 ]) got in
        here s lo hi at x p ps y k (omega (arith, first, there)) is)
    | inr out ↦ (
        let rest : first_between lo hi (unacknowledged_in s (suc d) ps) ≡ Some (n, place) = rw (y, out) at e in
        let low = (found_at s (suc d) n place ps (unacknowledged_in s (suc d) ps) refl (first_alone lo hi (unacknowledged_in s (suc d) ps) n place rest).0).0 in
        later s d lo hi place at x p ps (outside_new s lo hi x out) low there is (λ k. new_written s (suc d) lo hi n place k ps p rest))
  ]
  | inr out ↦ (
      let rest : first_between lo hi (unacknowledged_in s (suc d) ps) ≡ Some (n, place) = rw out at e in
      let low = (found_at s (suc d) n place ps (unacknowledged_in s (suc d) ps) refl (first_alone lo hi (unacknowledged_in s (suc d) ps) n place rest).0).0 in
      later s d lo hi place at x p ps (not_waiting_new s lo hi x out) low there is (λ k. new_written s (suc d) lo hi n place k ps p rest))
]

-- where no entry is between the two numbers, no packet is new
pub nothing_new : (s : Space) (d lo hi : ℕ) (ps : List SentPacket) → first_between lo hi (unacknowledged_in s d ps) ≡ None → filter (is_new_in s lo hi) ps ≡ []
nothing_new s d lo hi [] e = refl
nothing_new s d lo hi (x ∷ ps) e = elim (cases_Bool (is_waiting s x)) [
  | inl y ↦ elim (cases_Bool (is_between lo hi x.number)) [
    | inl k ↦ (let got : ◌≡◌ {A = Option (ℕ × ℕ)} (Some (x.number, d)) None = rw (y, k) at e in cc)
    | inr out ↦ ap (λ b. cond b (x ∷ filter (is_new_in s lo hi) ps) (filter (is_new_in s lo hi) ps)) (outside_new s lo hi x out) ∙ nothing_new s (suc d) lo hi ps (rw (y, out) at e)
  ]
  | inr out ↦ ap (λ b. cond b (x ∷ filter (is_new_in s lo hi) ps) (filter (is_new_in s lo hi) ps)) (not_waiting_new s lo hi x out) ∙ nothing_new s (suc d) lo hi ps (rw out at e)
]

-- ---- a range above those that were covered

apart_if : (s : Space) (lo hi : ℕ) (b : Bool) (p : SentPacket) (us vs : List SentPacket) → (b ≡ true → is_between lo hi p.number ≡ false) → us ≡ vs
    → cond (is_new_in s lo hi (if b then with_fate Acknowledged p else p)) ((if b then with_fate Acknowledged p else p) ∷ us) us ≡ cond (is_new_in s lo hi p) (p ∷ vs) vs
apart_if s lo hi true p us vs out same = ap (λ c. cond c (with_fate Acknowledged p ∷ us) us) (covered_not_new s lo hi p) ∙ (same ∙ ap (λ c. cond c (p ∷ vs) vs) (sym (outside_new s lo hi p (out refl))))
apart_if s lo hi false p us vs out same = ap (λ ws. cond (is_new_in s lo hi p) (p ∷ ws) ws) same

pub new_apart : (s : Space) (lo hi : ℕ) (front : List (ℕ × ℕ)) (ps : List SentPacket) → AllByRecursion (λ (r : ℕ × ℕ). r.1 < lo) front
    → filter (is_new_in s lo hi) (map (covered_by s front) ps) ≡ filter (is_new_in s lo hi) ps
new_apart s lo hi front [] below = refl
new_apart s lo hi front (p ∷ ps) below =
    apart_if s lo hi (is_waiting s p && is_named front p.number) p (filter (is_new_in s lo hi) (map (covered_by s front) ps)) (filter (is_new_in s lo hi) ps)
    (λ y. below_out lo hi p.number (named_below lo p.number front below (and_parts (is_waiting s p) (is_named front p.number) y).1)) (new_apart s lo hi front ps below)

-- ---- ranges that are apart

next_up : (ranges : List (ℕ × ℕ)) (i : ℕ) (range next : ℕ × ℕ) → AreApart ranges → suc i < length ranges → range ≡ get_or ranges i range → next ≡ get_or ranges (suc i) next → range.1 < next.0
next_up [] i range next apart within is is' = absurd (omega arith)
next_up (a ∷ []) i range next apart within is is' = absurd (omega (arith, within))
next_up (a ∷ (b ∷ rs)) zero range next apart within is is' =
    let above = apart.0 in
    let e = ap (λ (x : ℕ × ℕ). x.1) is in
    let e' = ap (λ (x : ℕ × ℕ). x.0) is' in
    omega (arith, above, e, e')
next_up (a ∷ (b ∷ rs)) (suc i) range next apart within is is' = next_up (b ∷ rs) i range next apart.1 (omega (arith, within)) is is'

pub next_above : (ranges : List (ℕ × ℕ)) (i : ℕ) (range next : ℕ × ℕ) → AreApart ranges → i + 1 < length ranges → range ≡ get_or ranges i range → next ≡ get_or ranges (i + 1) next → range.1 < next.0
next_above ranges i range next apart within is is' =
    next_up ranges i range next apart (omega (arith, within)) is (subst (λ (k : ℕ). next ≡ get_or ranges k next) (add-one i) is')

-- ---- those found

pub with_none : (xs ys : List SentPacket) → ys ≡ [] → xs ++ ys ≡ xs
with_none [] ys none = none
with_none (x ∷ xs) ys none = ap (λ zs. x ∷ zs) (with_none xs ys none)
