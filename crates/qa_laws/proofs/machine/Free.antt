-- What is free after a detection, and what a Lost line takes of it.
use Rattle.std.specs.List.{list_any}
use Rattle.std.proofs.Common.{◌≡◌, ◌∙◌, ◌+◌, ◌<◌, ◌≤◌, ℕ, List, [], ◌∷◌, true, false, ◌&&◌, ◌||◌, not, Option, Some, None, refl, sym, ap, arith, subst, Contains, sum_by, filter, Bool}
use Rattle.std.proofs.lemmas.Bool.{and_from, and_parts, both_ways, false_from_ne_true, leb-true, lt-ltb, ltb-true, not-true, or_right}
use Rattle.std.specs.Prelude.{nat_le, nat_lt, if◌then◌else◌}
use Rattle.qa_base.specs.declared.event.Event.{Event}
use Rattle.qa_base.specs.declared.event.Event.TheVariants.{Ack, Lost, Timer, Discard}
use Rattle.qa_base.specs.declared.space.Space.{Space}
use Rattle.qa_base.specs.machine.Detection.{all_at, distance_below, is_at, is_far_below, is_found, is_left, is_old, is_past_threshold, is_unsettled, may_be_spared}
use Rattle.qa_base.specs.machine.Estimates.{sampled}
use Rattle.qa_base.specs.machine.Loss.{bytes_in_flight, declared, detection, free, is_free, is_open, is_owed}
use Rattle.qa_base.specs.machine.Packets.{Packet, packets, is_of, largest_acknowledged}
use Rattle.qa_base.specs.machine.Rules.{IsRun}
use Rattle.qa_base.specs.values.Events.{declares_lost, is_quiet}
use Rattle.qa_base.specs.values.Settings.{Settings, is_may}
use Rattle.qa_base.proofs.machine.Declared.{free_is, must_declared_by, declared_is}
use Rattle.qa_base.proofs.machine.Quiet.{owed-quiet, same_sum}
use Rattle.qa_base.proofs.machine.RunLaws.{tolerated_run_of}
use Rattle.qa_base.specs.history.Declared.{IsFarBelow, is_named_free, named_free}
use Rattle.qa_base.specs.history.Oldest.{is_flying}
use Rattle.qa_base.specs.history.Sums.{bytes}
use Rattle.qa_laws.proofs.machine.Bytes.{bytes-quiet}
use Rattle.qa_base.proofs.history.Changes.{free_is_flying, free_is_left, free_not_owed}
use Rattle.qa_base.proofs.history.ToleratedRuns.{is_space_same}
use Rattle.qa_base.proofs.history.Pairs.{of_each, part_is, part_has, some_one}
use Rattle.qa_base.proofs.history.Settled.{opens_is}

free_here : (c : Settings) (h : List Event) (p : Packet) → Contains (free c h) p → is_free c h p ≡ true
free_here c h p has = (part_is (is_free c h) (packets h) p (subst (λ (ps : List Packet). Contains ps p) (free_is c h) has)).1

-- ---- where it lies

-- lower than the largest acknowledged number by the packet threshold, and young
record IsSpared (c : Settings) (h : List Event) (p : Packet) (now : ℕ) (most : Option ℕ) : Type 0 where
  largest : ℕ
  is : most ≡ Some largest
  lower : p.number < largest
  below : c.options.packet_threshold ≤ distance_below c.options.threshold_counts h p.space p.number largest
  young : is_old c (sampled c h) now p ≡ false

spared_is : (c : Settings) (h : List Event) (p : Packet) (now : ℕ) (most : Option ℕ) → may_be_spared c (sampled c h) h now most p ≡ true → IsSpared c h p now most
spared_is c h p now None is = cc
spared_is c h p now (Some m) is =
    let distance = distance_below c.options.threshold_counts h p.space p.number m in
    let far = nat_le c.options.packet_threshold distance in
    let young = and_parts (nat_lt p.number m && (is_may c.options.loss_by_number && far)) (not (is_old c (sampled c h) now p)) is in
    let both = and_parts (nat_lt p.number m) (is_may c.options.loss_by_number && far) young.0 in
    let below = ltb-true p.number m both.0 in
    let three = leb-true c.options.packet_threshold distance (and_parts (is_may c.options.loss_by_number) far both.1).1 in
    record { largest = m; is = refl; lower = below; below = three; young = not-true (is_old c (sampled c h) now p) young.1 }

pub free_is_far : (c : Settings) (h : List Event) (p : Packet) → Contains (free c h) p → IsFarBelow c h p
free_is_far c h p has =
    let left = free_is_left c h p (free_here c h p has) in
    let spared = spared_is c h p left.now (largest_acknowledged h p.space) left.spared in
    record { largest = spared.largest; acknowledged = spared.is; lower = spared.lower; below = spared.below }

same_now : (space other : Space) (now then_ : ℕ) → ◌≡◌ {A = Option (Space × ℕ)} (Some (space, now)) (Some (other, then_)) → then_ ≡ now
same_now space other now then_ is = let both : ◌≡◌ {A = Space × ℕ} (space, now) (other, then_) = cc in sym (ap (λ (d : Space × ℕ). d.1) both)

pub free_is_young : (c : Settings) (h : List Event) (p : Packet) (space : Space) (now : ℕ) → detection c h ≡ Some (space, now) → Contains (free c h) p → is_old c (sampled c h) now p ≡ false
free_is_young c h p space now at has =
    let left = free_is_left c h p (free_here c h p has) in
    let spared = spared_is c h p left.now (largest_acknowledged h p.space) left.spared in
    subst (λ (t : ℕ). is_old c (sampled c h) t p ≡ false) (same_now space p.space now left.now (sym at ∙ left.at)) spared.young

pub free_is_apart : (c : Settings) (h : List Event) (p : Packet) → Contains (free c h) p → is_owed c h p ≡ false
free_is_apart c h p has = free_not_owed c h p (free_here c h p has)

-- in a run it is open and in flight
pub free_flies : (c : Settings) (h : List Event) (p : Packet) → IsRun c h → Contains (free c h) p → is_flying c h p ≡ true
free_flies c h p run has = free_is_flying c h (tolerated_run_of c h run) p (free_here c h p has)

-- and there is none but behind a detection
pub none_is_free : (c : Settings) (h : List Event) → detection c h ≡ None → free c h ≡ []
none_is_free c h none = ap (all_at (is_left c (sampled c h) h) h) none

-- ---- what is open is young

past_if_old : (c : Settings) (h : List Event) (p : Packet) (now : ℕ) (most : Option ℕ) (m : ℕ) → most ≡ Some m → p.number < m → is_old c (sampled c h) now p ≡ true
    → is_past_threshold c (sampled c h) h now most p ≡ true
past_if_old c h p now None m is less old = cc
past_if_old c h p now (Some k) m is less old =
    let same : k ≡ m = cc in
    let far = not (is_may c.options.loss_by_number) && is_far_below c h k p in
    and_from (nat_lt p.number k) (far || is_old c (sampled c h) now p) (lt-ltb p.number k (omega (arith, less, same))) (or_right far (is_old c (sampled c h) now p) old)

pub flying_is_young : (c : Settings) (h : List Event) (p : Packet) (now largest : ℕ) → is_flying c h p ≡ true → detection c h ≡ Some (p.space, now)
    → largest_acknowledged h p.space ≡ Some largest → p.number < largest → is_old c (sampled c h) now p ≡ false
flying_is_young c h p now largest flying at most less = false_from_ne_true (is_old c (sampled c h) now p) (λ old.
    let r = sampled c h in
    let flies = and_parts p.in_flight (is_open c h p) flying in
    let opens = opens_is c h p flies.1 in
    let past = past_if_old c h p now (largest_acknowledged h p.space) largest most less old in
    let found : is_at (is_found c r h) p (Some (p.space, now)) ≡ true =
    and_from (is_of p.space p) (is_found c r h now p.space p) (is_space_same p.space)
    (and_from (p.in_flight && is_unsettled h p) (is_past_threshold c r h now (largest_acknowledged h p.space) p) (and_from p.in_flight (is_unsettled h p) flies.0 opens.unsettled) past) in
    both_ways (is_owed c h p) opens.free (ap (is_at (is_found c r h) p) at ∙ found))

-- ---- quiet events by which nothing is lost

pub must_lose_nothing : (c : Settings) (e : Event) (h : List Event) → is_may c.options.loss_by_number ≡ false → is_quiet e ≡ true → declared c (e ∷ h) ≡ []
must_lose_nothing c e h must quiet = must_declared_by c (sampled c (e ∷ h)) e h must ∙ owed-quiet c e h quiet

has_none : (ps : List Packet) (p : Packet) → Contains ps p → ps ≡ [] → ⊥
has_none [] p (k, within, is) none = omega arith
has_none (q ∷ ps) p has none = cc

-- a Lost line that names nothing that was free completes nothing
completes_nothing : (c : Settings) (e : Event) (h : List Event) → named_free c e h ≡ [] → list_any (is_named_free c e h) (packets h) ≡ false
completes_nothing c e h none = false_from_ne_true (list_any (is_named_free c e h) (packets h)) (λ some.
    let one = some_one (is_named_free c e h) (packets h) some in
    has_none (named_free c e h) one.0 (part_has (is_named_free c e h) (packets h) one.0 one.1 one.2) none)

pub unnamed_lose_nothing : (c : Settings) (e : Event) (h : List Event) → is_quiet e ≡ true → named_free c e h ≡ [] → declared c (e ∷ h) ≡ []
unnamed_lose_nothing c (Lost time space ranges) h quiet none =
    let e = Lost time space ranges in
    declared_is c time space ranges h
    ∙ ap (λ (b : Bool). if b then filter (λ p. is_owed c h p || is_named_free c e h p) (packets h) else []) (completes_nothing c e h none)
unnamed_lose_nothing c (Ack ack) h quiet none = cc
unnamed_lose_nothing c (Timer time kind space) h quiet none = cc
unnamed_lose_nothing c (Discard time space) h quiet none = cc
unnamed_lose_nothing c _ h quiet none = refl

-- ---- what a Lost line takes

sizes_of_named : (c : Settings) (e : Event) (h : List Event) → sum_by bytes (named_free c e h) ≡ sum_by (λ p. p.size) (named_free c e h)
sizes_of_named c e h =
    same_sum bytes (λ p. p.size) (named_free c e h) (of_each (λ p. bytes p ≡ p.size) (named_free c e h) (λ p has.
    let is = (part_is (is_named_free c e h) (packets h) p has).1 in
    let left = free_is_left c h p (and_parts (is_free c h p) (declares_lost p.space p.number e) is).0 in
    ap (λ b. if b then p.size else 0) left.in_flight))

pub lost_takes_free : (c : Settings) (h : List Event) (time : ℕ) (space : Space) (ranges : List (ℕ × ℕ)) → IsRun c (Lost time space ranges ∷ h)
    → bytes_in_flight c (Lost time space ranges ∷ h) + sum_by (λ p. p.size) (named_free c (Lost time space ranges) h) ≡ bytes_in_flight c h
lost_takes_free c h time space ranges run =
    let e = Lost time space ranges in
    let taken = bytes-quiet c e h run refl in
    let sizes = sizes_of_named c e h in
    omega (arith, taken, sizes)
