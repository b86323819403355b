-- What a loss timer finds that goes off before its deadline was sent at one time, so that it makes no collapse.
use Rattle.std.proofs.Common.{◌≡◌, ◌∙◌, ◌+◌, ◌-◌, ◌<◌, ◌≤◌, ℕ, min, List, [], ◌∷◌, map, Bool, true, false, ◌&&◌, ◌||◌, not, Option, Some, None, option_map, unwrap_or, refl, sym, ap, arith, subst, Contains, inl, inr}
use Rattle.std.proofs.lemmas.Bool.{and_parts, and_from, false_from_ne_true, ltb-true}
use Rattle.std.specs.List.{AllByRecursion, filter}
use Rattle.std.specs.Prelude.{nat_lt, nat_le}
use Rattle.qa_base.specs.declared.event.Event.{Event}
use Rattle.qa_base.specs.declared.event.Event.TheVariants.{Timer}
use Rattle.qa_base.specs.declared.space.TimerKind.TheVariants.{Loss}
use Rattle.qa_base.specs.declared.space.Space.{Space}
use Rattle.qa_base.specs.declared.space.ThresholdCounts.{ThresholdCounts}
use Rattle.qa_base.specs.declared.space.ThresholdCounts.TheVariants.{Numbers, Packets}
use Rattle.qa_base.specs.declared.space.TimeUnit.{TimeUnit}
use Rattle.qa_base.specs.declared.space.TimeUnit.TheVariants.{Microseconds, Nanoseconds}
use Rattle.qa_base.specs.machine.Breaches.{is_before}
use Rattle.qa_base.specs.machine.Detection.{awaits_timer, distance_below, first_awaiting, is_end, is_far_below, is_found, is_old, is_past_threshold, is_unsettled, looks_at, old_at}
use Rattle.qa_base.specs.machine.Estimates.{rtt, sampled}
use Rattle.qa_base.specs.machine.Loss.{is_owed, is_persistent, owed}
use Rattle.qa_base.specs.machine.Packets.{Packet, is_below_largest, is_of, largest_acknowledged, least_of, packets, packets_of}
use Rattle.qa_base.specs.machine.Rtt.{Estimate, loss_delay}
use Rattle.qa_base.specs.machine.Rules.{IsRun}
use Rattle.qa_base.specs.machine.Timer.{Due, deadline}
use Rattle.qa_base.specs.values.Settings.{Settings, early, granularity, in_unit, is_may}
use Rattle.qa_base.proofs.machine.RunLaws.{old_is_after_loss_delay, tolerated_run_of}
use Rattle.qa_format.specs.format.Proper.{IsProperEvent}
use Rattle.qa_laws.proofs.machine.ConductOfTimers.{set_for}
use Rattle.qa_base.proofs.history.ToleratedRuns.{is_space_is}
use Rattle.qa_base.proofs.history.Detection.{asked_was_flying}
use Rattle.qa_laws.proofs.machine.Near.{flying_is_near, is_far}
use Rattle.qa_base.proofs.history.Pairs.{first_or_rest, part_has}
use Rattle.qa_base.proofs.history.Persistence.{apart_of}
use Rattle.qa_base.proofs.history.Settled.{owed_has, owed_is, unsettled_before}

-- ---- the first that awaits the timer

least_here : (n m k : ℕ) → min n k ≡ m → m ≤ n
least_here n m k is = omega (arith, is)

least_rest : (n m k t : ℕ) → min n k ≡ m → k ≤ t → m ≤ t
least_rest n m k t is le = omega (arith, is, le)

one_number : (a b : ℕ) → ◌≡◌ {A = Option ℕ} (Some a) (Some b) → a ≡ b
one_number a b is = cc

no_least : (ps : List Packet) (p : Packet) → Contains ps p → least_of (map (λ q. q.time) ps) ≡ None → ⊥
no_least [] p (k, within, is) none = omega (arith, within)
no_least (q ∷ ps) p has none = cc

least_behind : (n m : ℕ) (ps : List Packet) (p : Packet) (rest : Option ℕ) → least_of (map (λ q. q.time) ps) ≡ rest → min n (unwrap_or rest n) ≡ m → Contains ps p
    → ((k : ℕ) → least_of (map (λ q. q.time) ps) ≡ Some k → k ≤ p.time) → m ≤ p.time
least_behind n m ps p None least is has before = absurd (no_least ps p has least)
least_behind n m ps p (Some k) least is has before = least_rest n m k p.time is (before k least)

-- the least of the times of some packets is at most that of each
least_at_most : (ps : List Packet) (p : Packet) (m : ℕ) → Contains ps p → least_of (map (λ q. q.time) ps) ≡ Some m → m ≤ p.time
least_at_most [] p m (k, within, is) least = absurd (omega (arith, within))
least_at_most (q ∷ ps) p m has least =
    let is = one_number (min q.time (unwrap_or (least_of (map (λ k. k.time) ps)) q.time)) m least in
    elim (first_or_rest q p ps has) [
      | inl here ↦ subst (λ (k : Packet). m ≤ k.time) here (least_here q.time m (unwrap_or (least_of (map (λ k. k.time) ps)) q.time) is)
      | inr behind ↦ least_behind q.time m ps p (least_of (map (λ k. k.time) ps)) refl is behind (λ k less. least_at_most ps p k behind less)
    ]

-- when it was sent, and when it is old
abbrev Sets : Option ℕ → ℕ → ℕ → Type 0
Sets first delay due = (sent : ℕ) × (first ≡ Some sent) × (sent + delay ≡ due)

sets_from : (first : Option ℕ) (delay due : ℕ) → option_map (λ sent. sent + delay) first ≡ Some due → Sets first delay due
sets_from None delay due is = cc
sets_from (Some sent) delay due is = (sent, refl, one_number (sent + delay) due is)

-- ---- what is found by age alone

old_unless_far : (c : Settings) (r : Estimate) (h : List Event) (now : ℕ) (most : Option ℕ) (p : Packet) → is_past_threshold c r h now most p ≡ true
    → (is_may c.options.loss_by_number ≡ false → is_far c h p most ≡ false)
    → (is_old c r now p ≡ true) × (is_below_largest p.number most ≡ true)
old_unless_far c r h now None p past near = cc
old_unless_far c r h now (Some m) p past near =
    let far = is_far_below c h m p in
    let both = and_parts (nat_lt p.number m) ((not (is_may c.options.loss_by_number) && far) || is_old c r now p) past in
    (by_age (nat_lt p.number m) (is_may c.options.loss_by_number) far (is_old c r now p) both.0 near both.1, both.0)
  where
    by_age : (below may far old : Bool) → below ≡ true → (may ≡ false → (below && far) ≡ false) → ((not may && far) || old) ≡ true → old ≡ true
    by_age below true far old is near either = either
    by_age true false true old is near either = let no = near refl in cc
    by_age true false false old is near either = either
    by_age false false far old is near either = cc

long : (unit : TimeUnit) → 1 ≤ in_unit unit 1000
long Microseconds = omega arith
long Nanoseconds = omega arith

delay_long : (c : Settings) (r : Estimate) → 1 ≤ loss_delay c r
delay_long c r = let grain : 1 ≤ granularity c = long c.unit in omega (arith, grain)

looks_then : (tolerance time due : ℕ) (old : Option ℕ) → old ≡ Some due → time < due → due ≤ time + tolerance → looks_at tolerance time old ≡ due
looks_then tolerance time due None is before soon = cc
looks_then tolerance time due (Some n) is before soon = let same = one_number n due is in omega (arith, same, before, soon)

same_time : (sent delay due now t : ℕ) → sent + delay ≡ due → now ≡ due → 1 ≤ delay → delay ≤ now - t → sent ≤ t → t ≡ sent
same_time sent delay due now t sets at long waited first = omega (arith, sets, at, long, waited, first)

one_due : (d e : Due) → ◌≡◌ {A = Option Due} (Some d) (Some e) → d ≡ e
one_due d e is = cc

-- a timer sends nothing that would count
distance_at_timer : (counts : ThresholdCounts) (h : List Event) (time : ℕ) (space s : Space) (n m : ℕ) → distance_below counts (Timer time Loss space ∷ h) s n m ≡ distance_below counts h s n m
distance_at_timer Numbers h time space s n m = refl
distance_at_timer Packets h time space s n m = refl

far_at_timer : (c : Settings) (h : List Event) (time : ℕ) (space : Space) (p : Packet) (most : Option ℕ) → is_far c (Timer time Loss space ∷ h) p most ≡ is_far c h p most
far_at_timer c h time space p None = refl
far_at_timer c h time space p (Some m) = ap (λ d. nat_lt p.number m && nat_le c.options.packet_threshold d) (distance_at_timer c.options.threshold_counts h time space p.space p.number m)

-- ---- what an early timer finds

-- it was sent at one time
pub record IsSentAt (first : ℕ) (lost : List Packet) : Type 0 where
  pub each : (p : Packet) → Contains lost p → p.time ≡ first

pub early_finds : (c : Settings) (h : List Event) (time : ℕ) (space : Space) → IsRun c (Timer time Loss space ∷ h) → AllByRecursion IsProperEvent h → is_before time (deadline c h) ≡ true
    → (first : ℕ) × IsSentAt first (owed c (Timer time Loss space ∷ h)) × ((due : Due) → deadline c h ≡ Some due → first + loss_delay c (rtt c h) ≡ due.time)
early_finds c h time space run proper soon =
    let e = Timer time Loss space in
    let r = rtt c h in
    let set = set_for c h time space run in
    let before = ltb-true time set.due.time (rw set.set at soon) in
    let delay = loss_delay c r in
    let now = looks_at (early c) time (old_at c r h space) in
    let now_is : now ≡ set.due.time = looks_then (early c) time set.due.time (old_at c r h space) set.old before set.soon in
    let sets = sets_from (first_awaiting h space) delay set.due.time set.old in (
      sets.0,
      record {
        each = λ p has.
            let found = owed_is c (e ∷ h) p has in
            let both = and_parts (is_of space p) (is_found c (sampled c (e ∷ h)) (e ∷ h) now space p) found.1 in
            let parts = and_parts (p.in_flight && is_unsettled (e ∷ h) p) (is_past_threshold c r (e ∷ h) now (largest_acknowledged h space) p) both.1 in
            let flies = and_parts p.in_flight (is_unsettled (e ∷ h) p) parts.0 in
            let of_space : space ≡ p.space = is_space_is space p.space both.0 in
            let flying = asked_was_flying c e h (tolerated_run_of c (e ∷ h) run) space now refl p found.0 (and_from (is_of space p) (p.in_flight && is_unsettled (e ∷ h) p) both.0 parts.0) in
            let near : is_may c.options.loss_by_number ≡ false → is_far c (e ∷ h) p (largest_acknowledged h space) ≡ false =
            λ must. far_at_timer c h time space p (largest_acknowledged h space) ∙ subst (λ (s : Space). is_far c h p (largest_acknowledged h s) ≡ false) (sym of_space) (flying_is_near c h must run.0 proper p found.0 flying) in
            let old = old_unless_far c r (e ∷ h) now (largest_acknowledged h space) p parts.1 near in
            let waited : delay ≤ now - p.time = (old_is_after_loss_delay c r now p).0 old.0 in
            let below : is_below_largest p.number (largest_acknowledged h p.space) ≡ true = subst (λ (s : Space). is_below_largest p.number (largest_acknowledged h s) ≡ true) of_space old.1 in
            let unsettled = unsettled_before e h p flies.1 in
            let awaits : awaits_timer h p ≡ true = and_from (p.in_flight && is_unsettled h p) (is_below_largest p.number (largest_acknowledged h p.space)) (and_from p.in_flight (is_unsettled h p) flies.0 unsettled) below in
            let among = part_has (awaits_timer h) (packets_of h space) p (part_has (is_of space) (packets h) p found.0 both.0) awaits in
            same_time sets.0 delay set.due.time now p.time sets.2 now_is (delay_long c r) waited (least_at_most (filter (awaits_timer h) (packets_of h space)) p sets.0 among sets.1);
      },
      λ due is. sets.2 ∙ ap (λ (d : Due). d.time) (one_due set.due due (sym set.set ∙ is)),
    )

-- each was old at the deadline
pub early_finds_old_at_deadline : (c : Settings) (h : List Event) (time : ℕ) (space : Space) → IsRun c (Timer time Loss space ∷ h) → AllByRecursion IsProperEvent h
    → is_before time (deadline c h) ≡ true → (p : Packet) → Contains (owed c (Timer time Loss space ∷ h)) p → (due : Due) → deadline c h ≡ Some due
    → p.time + loss_delay c (rtt c h) ≡ due.time
early_finds_old_at_deadline c h time space run proper soon p has due is =
    let finds = early_finds c h time space run proper soon in
    ap (λ n. n + loss_delay c (rtt c h)) (finds.1.each p has) ∙ finds.2 due is

-- any two of them
pub early_finds_one_time : (c : Settings) (h : List Event) (time : ℕ) (space : Space) → IsRun c (Timer time Loss space ∷ h) → AllByRecursion IsProperEvent h → is_before time (deadline c h) ≡ true
    → (p q : Packet) → Contains (owed c (Timer time Loss space ∷ h)) p → Contains (owed c (Timer time Loss space ∷ h)) q → p.time ≡ q.time
early_finds_one_time c h time space run proper soon p q has_p has_q =
    let finds = early_finds c h time space run proper soon in
    finds.1.each p has_p ∙ sym (finds.1.each q has_q)

-- so no two lie apart
pub early_makes_no_collapse : (c : Settings) (h : List Event) (time : ℕ) (space : Space) → IsRun c (Timer time Loss space ∷ h) → AllByRecursion IsProperEvent h → is_before time (deadline c h) ≡ true
    → is_persistent c (Timer time Loss space ∷ h) ≡ false
early_makes_no_collapse c h time space run proper soon =
    let e = Timer time Loss space in
    false_from_ne_true (is_persistent c (e ∷ h)) (λ is.
    let apart = apart_of c (e ∷ h) is in
    let p = apart.0 in
    let q = apart.1 in
    let has_p = owed_has c (e ∷ h) p apart.2.has_p (and_parts (is_owed c (e ∷ h) p) (is_end (sampled c (e ∷ h)) p) apart.2.counts_p).0 in
    let has_q = owed_has c (e ∷ h) q apart.2.has_q (and_parts (is_owed c (e ∷ h) q) (is_end (sampled c (e ∷ h)) q) apart.2.counts_q).0 in
    let same = early_finds_one_time c h time space run proper soon p q has_p has_q in
    omega (arith, same, apart.2.far))
