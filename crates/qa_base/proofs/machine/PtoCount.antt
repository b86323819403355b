-- The PTO count of a tolerated run is at most 40.
use Rattle.std.proofs.Common.{◌≡◌, ◌+◌, ◌*◌, ◌^◌, ◌≤◌, ◌<◌, ℕ, min, List, [], ◌∷◌, Bool, true, false, Option, Some, None, option_map, is_none, refl, arith, inl, inr, ◌⊎◌}
use Rattle.std.proofs.Math.Nat.{mul-le-mul_right}
use Rattle.std.proofs.Math.Pow.{pow_mono}
use Rattle.std.proofs.lemmas.Bool.{and_parts, ltb-false, ltb-true, cases_Bool, not-false}
use Rattle.std.specs.List.{AllByRecursion}
use Rattle.std.specs.Option.{option_or}
use Rattle.std.specs.Prelude.{if◌then◌else◌, nat_le, nat_lt}
use Rattle.qa_base.specs.declared.event.Event.{Event}
use Rattle.qa_base.specs.declared.event.Event.TheVariants.{Timer}
use Rattle.qa_base.specs.declared.space.TimeUnit.{TimeUnit}
use Rattle.qa_base.specs.declared.space.TimeUnit.TheVariants.{Microseconds, Nanoseconds}
use Rattle.qa_base.specs.declared.space.TimerKind.TheVariants.{Loss, Pto}
use Rattle.qa_base.specs.declared.space.Space.{Space}
use Rattle.qa_base.specs.declared.space.Space.TheVariants.{Initial, Handshake, App}
use Rattle.qa_base.specs.machine.Breaches.{is_other, is_before}
use Rattle.qa_base.specs.values.Events.{is_space}
use Rattle.qa_base.specs.machine.Handshake.{is_confirmed, is_validated}
use Rattle.qa_base.specs.values.Limits.{max_time}
use Rattle.qa_base.specs.machine.Estimates.{rtt}
use Rattle.qa_base.specs.machine.Rtt.{Estimate, pto_base}
use Rattle.qa_base.specs.machine.Violations.{IsToleratedRun, first_untolerated}
use Rattle.qa_base.specs.values.Settings.{Settings, early, granularity, per_microsecond}
use Rattle.qa_base.specs.machine.Timer.{Due, is_kind, earlier, loss_due, earliest_loss, pto_due, earliest_pto, anti_deadlock, deadline, pto_count, is_pto, resets_count, last_eliciting, last_set}
use Rattle.qa_base.proofs.machine.RunLaws.{form_holds}
use Rattle.qa_base.specs.machine.Widths.{IsTimely}
use Rattle.qa_base.proofs.machine.Steps.{pto_count_after}

-- a probe timeout lies that many doublings of the granularity behind
abbrev IsFar : ℕ → Option Due → Type 0
IsFar n None = Unit {0}
IsFar n (Some due) = is_kind Pto due.kind ≡ true → 1000 * 2 ^ n ≤ due.time

far_if : (n : ℕ) (b : Bool) (due later : Option Due) → IsFar n due → IsFar n later → IsFar n (if b then due else later)
far_if n true due later a b = a
far_if n false due later a b = b

far_earlier : (n : ℕ) (due later : Option Due) → IsFar n due → IsFar n later → IsFar n (earlier due later)
far_earlier n None later a b = b
far_earlier n (Some due) None a b = a
far_earlier n (Some due) (Some later) a b = far_if n (nat_le due.time later.time) (Some due) (Some later) a b

far_or : (n : ℕ) (due later : Option Due) → IsFar n due → IsFar n later → IsFar n (option_or due later)
far_or n None later a b = b
far_or n (Some due) later a b = a

false_true : false ≡ true → ⊥
false_true h = cc

far_loss : (n : ℕ) (s : Space) (delay : ℕ) (sent : Option ℕ) → IsFar n (option_map (λ t. record { kind = Loss; space = s; time = t + delay }) sent)
far_loss n s delay None = tt
far_loss n s delay (Some t) = λ is. absurd (false_true is)

long : (n t base : ℕ) → 1000 ≤ base → 1000 * 2 ^ n ≤ t + base * 2 ^ n
long n t base most = let more : 1000 * 2 ^ n ≤ base * 2 ^ n = mul-le-mul_right (2 ^ n) most in omega (arith, more)

far_pto : (n : ℕ) (s : Space) (base : ℕ) (sent : Option ℕ) → 1000 ≤ base → IsFar n (option_map (λ t. record { kind = Pto; space = s; time = t + base * 2 ^ n }) sent)
far_pto n s base None most = tt
far_pto n s base (Some t) most = λ is. long n t base most

unit_is_some : (u : TimeUnit) → 1 ≤ per_microsecond u
unit_is_some Microseconds = omega arith
unit_is_some Nanoseconds = omega arith

in_unit_is_small : (u : TimeUnit) (n : ℕ) → n ≤ 1000000000 → per_microsecond u * n ≤ 1000000000000
in_unit_is_small Microseconds n most = omega (arith, most)
in_unit_is_small Nanoseconds n most = omega (arith, most)

early_is_small : (c : Settings) → early c ≤ 1000000000000
early_is_small c = in_unit_is_small c.unit (min c.options.timer_early_us 1000000000) (omega arith)

base_is_long : (c : Settings) (r : Estimate) (delay : ℕ) → 1000 ≤ pto_base (granularity c) r + delay
base_is_long c r delay = let some = unit_is_some c.unit in omega (arith, some)

far_space : (c : Settings) (h : List Event) (delay : ℕ) (s : Space) (b : Bool)
    → IsFar (pto_count c h) (if b then option_map (λ sent. record { kind = Pto; space = s; time = sent + (pto_base (granularity c) (rtt c h) + delay) * 2 ^ pto_count c h }) (last_eliciting h s) else None)
far_space c h delay s true = far_pto (pto_count c h) s (pto_base (granularity c) (rtt c h) + delay) (last_eliciting h s) (base_is_long c (rtt c h) delay)
far_space c h delay s false = tt

far_pto_due : (c : Settings) (h : List Event) (delay : ℕ) (s : Space) → IsFar (pto_count c h) (pto_due c h delay s)
far_pto_due c h delay s = far_space c h delay s _

far_anti : (c : Settings) (h : List Event) (b : Bool) (s : Space)
    → IsFar (pto_count c h) (if b then None else option_map (λ set. record { kind = Pto; space = s; time = set + pto_base (granularity c) (rtt c h) * 2 ^ pto_count c h }) (last_set h))
far_anti c h true s = tt
far_anti c h false s = far_pto (pto_count c h) s (pto_base (granularity c) (rtt c h)) (last_set h) (let most = base_is_long c (rtt c h) 0 in omega (arith, most))

far_deadline : (c : Settings) (h : List Event) → IsFar (pto_count c h) (deadline c h)
far_deadline c h =
    let n = pto_count c h in
    let loss = far_earlier n (loss_due c h Initial) _ (far_loss n Initial _ _) (far_earlier n (loss_due c h Handshake) (loss_due c h App) (far_loss n Handshake _ _) (far_loss n App _ _)) in
    let app = far_if n (is_confirmed h) (pto_due c h c.max_ack_delay App) None (far_pto_due c h c.max_ack_delay App) tt in
    let pto = far_earlier n (pto_due c h 0 Initial) _ (far_pto_due c h 0 Initial) (far_earlier n (pto_due c h 0 Handshake) _ (far_pto_due c h 0 Handshake) app) in
    far_or n (earliest_loss c h) _ loss (far_or n (earliest_pto c h) (anti_deadlock c h) pto (far_anti c h (is_validated c h) _))

or_more : (n m : ℕ) → (n < m) ⊎ (m ≤ n)
or_more n m = elim (cases_Bool (nat_lt n m)) [
  | inl is ↦ inl (ltb-true n m is)
  | inr is ↦ inr (ltb-false n m is)
]

few_doublings : (n time : ℕ) → 1000 * 2 ^ n ≤ time → time ≤ max_time + 1000000000000 → n < 40
few_doublings n time far late = elim (or_more n 40) [
  | inl less ↦ less
  | inr most ↦ (let more : 2 ^ 40 ≤ 2 ^ n = pow_mono most in absurd (omega (arith, more, far, late)))
]

by_due : (n time : ℕ) (space : Space) (due : Option Due) → is_none due ≡ false → is_other Pto space due ≡ false → is_before time due ≡ false → IsFar n due → time ≤ max_time + 1000000000000 → n < 40
by_due n time space None some same late far in_time = cc
by_due n time space (Some due) some same late far in_time =
    let both = and_parts (is_kind Pto due.kind) (is_space space due.space) (not-false _ same) in
    let is_late : due.time ≤ time = ltb-false time due.time late in
    let length = far both.0 in
    few_doublings n due.time length (omega (arith, is_late))

counted : (resets pto : Bool) (n : ℕ) → (pto ≡ true → n < 40) → n ≤ 40 → (if resets then 0 else (if pto then 1 else 0) + n) ≤ 40
counted true pto n bound most = omega arith
counted false true n bound most = let less = bound refl in omega (arith, less)
counted false false n bound most = omega arith

-- a timer that is early comes while there are few doublings, and any other when they have passed
early_or_due : (n time : ℕ) (space : Space) (due : Option Due) → is_none due ≡ false → is_other Pto space due ≡ false → (is_before time due ≡ true → n < 40) → IsFar n due → time ≤ max_time + 1000000000000 → n < 40
early_or_due n time space due some same few far in_time = elim (cases_Bool (is_before time due)) [
  | inl early ↦ few early
  | inr late ↦ by_due n time space due some same late far in_time
]

pto_in_time : (c : Settings) (e : Event) (h : List Event) → first_untolerated c h e ≡ None → IsTimely e → is_pto (e ∷ h) ≡ true → pto_count c h < 40
pto_in_time c (Timer time Pto space) h allowed timely is =
    let holds = form_holds c h (Timer time Pto space) allowed in
    let soon = early_is_small c in
    early_or_due (pto_count c h) (time + early c) space (deadline c h) holds.timer_not_set holds.timer_other holds.timer_early (far_deadline c h) (omega (arith, soon, timely))
pto_in_time c (Timer time Loss space) h allowed timely is = cc
pto_in_time c _ h allowed timely is = cc

pub small_pto_count : (c : Settings) (h : List Event) → IsToleratedRun c h → AllByRecursion IsTimely h → pto_count c h ≤ 40
small_pto_count c [] tolerated_run timely = omega arith
small_pto_count c (e ∷ h) tolerated_run timely =
    rw (pto_count_after c e h) (counted (resets_count c (e ∷ h)) (is_pto (e ∷ h)) (pto_count c h) (pto_in_time c e h tolerated_run.1 timely.0) (small_pto_count c h tolerated_run.0 timely.1))
