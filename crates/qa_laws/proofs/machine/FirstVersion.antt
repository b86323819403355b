-- A header without a limit, a refresh and slack asks what one of version 1 does.
use Rattle.std.proofs.Common.{ap₂, ◌+◌, ◌*◌, ◌≡◌, ◌∙◌, ◌<◌, ◌&&◌, ℕ, List, [], ◌∷◌, ◌++◌, Bool, true, false, ◌==◌, not, Option, Some, None, Ok, refl, sym, ap, arith, inl, inr, mul-zero}
use Rattle.std.proofs.lemmas.Bool.{false≢true, cases_eq, cases_lt, eq-eqb, ne_eqb, le-ltb, lt-ltb}
use Rattle.std.specs.List.{AllByRecursion}
use Rattle.std.specs.Prelude.{nat_lt, if◌then◌else◌}
use Rattle.qa_base.specs.declared.event.Event.{Event}
use Rattle.qa_base.specs.declared.event.Event.TheVariants.{Lost, Metrics}
use Rattle.qa_base.specs.declared.event.MetricValues.{MetricValues}
use Rattle.qa_base.specs.declared.header.Version.TheVariants.{One}
use Rattle.qa_format.specs.declared.line.Line.TheVariants as line
use Rattle.qa_base.specs.declared.rule.Rule.{Rule}
use Rattle.qa_base.specs.declared.rule.Field.{Field}
use Rattle.qa_base.specs.declared.rule.Field.TheVariants.{Window, Ssthresh, BytesInFlight, LatestRtt, MinRtt, SmoothedRtt, Rttvar}
use Rattle.qa_base.specs.declared.rule.Rule.TheVariants.{CollapseMissing, Metric, TimerLate}
use Rattle.qa_base.specs.declared.space.Controller.{Controller}
use Rattle.qa_base.specs.declared.space.Controller.TheVariants.{NewReno, Reported}
use Rattle.qa_base.specs.declared.totals.Totals.{Totals}
use Rattle.qa_format.specs.format.Reading.{reading}
use Rattle.qa_base.specs.machine.Breaches.{is_above_collapse, is_collapse_missing, is_timer_late, is_late_by}
use Rattle.qa_base.specs.machine.Estimates.{rtt, sampled, with_sample_of}
use Rattle.qa_base.specs.machine.FirstVersion.{rtt_by_samples, is_another, exact_tests_of, exact_tests}
use Rattle.qa_base.specs.machine.Metrics.{differs, tests, metric_tests}
use Rattle.qa_base.specs.machine.Rtt.{Estimate, after_congestion, distance, refreshed, reset, sample_of, updated}
use Rattle.qa_base.specs.machine.Detection.{is_persistent_by}
use Rattle.qa_base.specs.machine.Rules.{broken, first_of, first_broken}
use Rattle.qa_base.specs.machine.State.{totals}
use Rattle.qa_base.specs.machine.Window.{acknowledged_since_collapse, other_window}
use Rattle.qa_base.specs.values.Constants.{minimum_window}
use Rattle.qa_base.specs.values.Events.{time_of}
use Rattle.qa_base.specs.values.Settings.{Settings, in_unit, is_reported, no_options, per_microsecond}
use Rattle.qa_format.proofs.format.ProperReadings.{reading_is_proper}

-- ---- the RTT

neither : (initial_rtt : ℕ) (resets refreshes : Bool) (r : Estimate) → resets ≡ false → refreshes ≡ false
    → (if resets then reset initial_rtt r else (if refreshes then refreshed r else r)) ≡ r
neither initial_rtt true refreshes r none no_refresh = cc
neither initial_rtt false true r none no_refresh = cc
neither initial_rtt false false r none no_refresh = refl

-- persistent congestion leaves the estimate
pub never_changed : (c : Settings) (is_persistent : Bool) (r : Estimate) → c.options.reset_rtt ≡ false → c.options.refresh_min_rtt ≡ false → after_congestion c is_persistent r ≡ r
never_changed c true r none no_refresh = neither c.initial_rtt c.options.reset_rtt c.options.refresh_min_rtt r none no_refresh
never_changed c false r none no_refresh = refl

-- without a reset and a refresh, and where samples are kept whole, it is that of the samples
pub rtt_is_by_samples : (c : Settings) (h : List Event) → c.options.reset_rtt ≡ false → c.options.refresh_min_rtt ≡ false → c.options.latest_rtt_less_delay ≡ false → rtt c h ≡ rtt_by_samples c h
rtt_is_by_samples c [] none no_refresh whole = refl
rtt_is_by_samples c (e ∷ h) none no_refresh whole =
    never_changed c (is_persistent_by c (sampled c (e ∷ h)) (e ∷ h)) (with_sample_of c (e ∷ h) (rtt c h)) none no_refresh
    ∙ ap₂ (λ less r. updated less r (sample_of c (e ∷ h))) whole (rtt_is_by_samples c h none no_refresh whole)

pub sampled_is_by_samples : (c : Settings) (h : List Event) → c.options.reset_rtt ≡ false → c.options.refresh_min_rtt ≡ false → c.options.latest_rtt_less_delay ≡ false → sampled c h ≡ rtt_by_samples c h
sampled_is_by_samples c [] none no_refresh whole = refl
sampled_is_by_samples c (Lost time space ranges ∷ h) none no_refresh whole = sampled_is_by_samples c h none no_refresh whole
sampled_is_by_samples c (e ∷ h) none no_refresh whole =
    ap₂ (λ less r. updated less r (sample_of c (e ∷ h))) whole (rtt_is_by_samples c h none no_refresh whole)

-- ---- late timers

-- the rule is another, or what it forbids is not so
abbrev IsNot : Rule → Bool × Rule → Type 0
IsNot rule test = test.0 ≡ true → test.1 ≡ rule → ⊥

never_if : (rule : Rule) (here : Bool) (r : Rule) (rest : Option Rule) → (here ≡ true → r ≡ rule → ⊥) → (rest ≡ Some rule → ⊥) → (if here then Some r else rest) ≡ Some rule → ⊥
never_if rule true r rest not later is = not refl cc
never_if rule false r rest not later is = later is

never_of : (rule : Rule) (tests : List (Bool × Rule)) → AllByRecursion (IsNot rule) tests → first_of tests ≡ Some rule → ⊥
never_of rule [] all is = cc
never_of rule (test ∷ tests) all is = never_if rule test.0 test.1 (first_of tests) all.0 (never_of rule tests all.1) is

metrics_are_others : (rule : Rule) → ((field : Field) → Metric field ≡ rule → ⊥) → (c : Settings) (h : List Event) (e : Event) (tests : List (Bool × Rule)) → AllByRecursion (IsNot rule) tests
    → AllByRecursion (IsNot rule) (metric_tests c h e ++ tests)
metrics_are_others rule other c h (Metrics time values) tests all = (
  (λ t. other Window),
  ((λ t. other Ssthresh), ((λ t. other BytesInFlight), ((λ t. other LatestRtt), ((λ t. other MinRtt), ((λ t. other SmoothedRtt), ((λ t. other Rttvar), all)))))),
)
metrics_are_others rule other c h _ tests all = all

no_late_by : (c : Settings) (h : List Event) (time : ℕ) (limit : Option ℕ) → limit ≡ None → is_late_by c h time limit ≡ false
no_late_by c h time None none = refl
no_late_by c h time (Some limit) none = cc

-- without a limit no event shows a late timer
pub no_timer_late : (c : Settings) (h : List Event) (e : Event) → c.options.timer_late ≡ None → is_timer_late c h e ≡ false
no_timer_late c h e none = no_late_by c h (time_of e) c.options.timer_late none

-- so the rule is never the first that is broken
pub never_late : (c : Settings) (h : List Event) (e : Event) → c.options.timer_late ≡ None → first_broken c h e ≡ Some TimerLate → ⊥
unfolding first_broken
never_late c h e none is =
    let last = metrics_are_others TimerLate (λ field same. cc) c h e ((is_timer_late c h e, TimerLate) ∷ (is_collapse_missing c h e, CollapseMissing) ∷ [])
    ((λ late same. absurd (false≢true (sym (no_timer_late c h e none) ∙ late))), ((λ t r. cc), tt)) in
    never_of TimerLate (broken c h e)
    ((λ t r. cc), ((λ t r. cc), ((λ t r. cc), ((λ t r. cc), ((λ t r. cc), ((λ t r. cc), ((λ t r. cc), ((λ t r. cc), ((λ t r. cc), ((λ t r. cc), ((λ t r. cc), ((λ t r. cc), ((λ t r. cc), ((λ t r. cc), ((λ t r. cc), last))))))))))))))) is

-- ---- reported windows

none_missing : (controller : Controller) (missing : Bool) → is_reported controller ≡ false → (is_reported controller && missing) ≡ false
none_missing NewReno missing is = refl
none_missing Reported missing is = cc

-- where no window is reported, none is that shows no collapse
pub no_collapse_missing : (c : Settings) (h : List Event) (e : Event) → is_reported c.options.controller ≡ false → is_collapse_missing c h e ≡ false
no_collapse_missing c h e own =
    none_missing c.options.controller (is_above_collapse (minimum_window c.max_datagram_size + c.options.report_slack_bytes) (other_window c h e) (acknowledged_since_collapse c h)) own

pub never_missing : (c : Settings) (h : List Event) (e : Event) → is_reported c.options.controller ≡ false → first_broken c h e ≡ Some CollapseMissing → ⊥
unfolding first_broken
never_missing c h e own is =
    let last = metrics_are_others CollapseMissing (λ field same. cc) c h e ((is_timer_late c h e, TimerLate) ∷ (is_collapse_missing c h e, CollapseMissing) ∷ [])
    ((λ t r. cc), ((λ missing same. absurd (false≢true (sym (no_collapse_missing c h e own) ∙ missing))), tt)) in
    never_of CollapseMissing (broken c h e)
    ((λ t r. cc), ((λ t r. cc), ((λ t r. cc), ((λ t r. cc), ((λ t r. cc), ((λ t r. cc), ((λ t r. cc), ((λ t r. cc), ((λ t r. cc), ((λ t r. cc), ((λ t r. cc), ((λ t r. cc), ((λ t r. cc), ((λ t r. cc), ((λ t r. cc), last))))))))))))))) is

-- ---- reported values

apart : (a b : ℕ) → (a ≡ b → ⊥) → 0 < distance a b
apart a b other = elim (cases_lt a b) [
  | inl less ↦ omega (arith, less)
  | inr most ↦ elim (cases_eq a b) [
    | inl same ↦ absurd (other same)
    | inr ne ↦ omega (arith, most, other)
  ]
]

exactly : (a b : ℕ) → nat_lt 0 (distance a b) ≡ not (a == b)
exactly a b = elim (cases_eq a b) [
  | inl same ↦ (let none : nat_lt 0 (distance a b) ≡ false = le-ltb 0 (distance a b) (omega (arith, same)) in none ∙ sym (ap not (eq-eqb a b same)))
  | inr other ↦ lt-ltb 0 (distance a b) (apart a b other) ∙ sym (ap not (ne_eqb a b other))
]

differs_is : (slack : ℕ) (value held : Option ℕ) → slack ≡ 0 → differs slack value held ≡ is_another value held
differs_is slack None held none = refl
differs_is slack (Some n) None none = refl
differs_is slack (Some n) (Some m) none = rw none (exactly n m)

none_in_unit : (c : Settings) → c.options.report_slack_us ≡ 0 → in_unit c.unit c.options.report_slack_us ≡ 0
none_in_unit c none = ap (λ n. per_microsecond c.unit * n) none ∙ mul-zero (per_microsecond c.unit)

own_differs : (controller : Controller) (slack : ℕ) (value held : Option ℕ) → is_reported controller ≡ false → slack ≡ 0 → (not (is_reported controller) && differs slack value held) ≡ is_another value held
own_differs NewReno slack value held own none = differs_is slack value held none
own_differs Reported slack value held own none = cc

tests_are : (c : Settings) (values : MetricValues) (held : Totals) → is_reported c.options.controller ≡ false → c.options.report_slack_us ≡ 0 → c.options.report_slack_bytes ≡ 0
    → tests c values held ≡ exact_tests_of values held
tests_are c values held own no_us no_bytes = rw (
  own_differs c.options.controller c.options.report_slack_bytes values.window (Some held.window) own no_bytes,
  own_differs c.options.controller c.options.report_slack_bytes values.ssthresh held.ssthresh own no_bytes,
  differs_is c.options.report_slack_bytes values.bytes_in_flight (Some held.bytes_in_flight) no_bytes,
  differs_is (in_unit c.unit c.options.report_slack_us) values.latest_rtt (Some held.latest_rtt) (none_in_unit c no_us),
  differs_is (in_unit c.unit c.options.report_slack_us) values.min_rtt (Some held.min_rtt) (none_in_unit c no_us),
  differs_is (in_unit c.unit c.options.report_slack_us) values.smoothed_rtt (Some held.smoothed_rtt) (none_in_unit c no_us),
  differs_is (in_unit c.unit c.options.report_slack_us) values.rttvar (Some held.rttvar) (none_in_unit c no_us),
) refl

-- without slack they are compared exactly
pub metric_tests_are_exact : (c : Settings) (h : List Event) (e : Event) → is_reported c.options.controller ≡ false → c.options.report_slack_us ≡ 0 → c.options.report_slack_bytes ≡ 0
    → metric_tests c h e ≡ exact_tests c h e
metric_tests_are_exact c h (Metrics time values) own no_us no_bytes = tests_are c values (totals c h) own no_us no_bytes
metric_tests_are_exact c h _ own no_us no_bytes = refl

-- ---- headers of version 1

pub first_version_has_no_options : (l : List ℕ) (c : Settings) → reading l ≡ Ok (line.Header c) → c.version ≡ One → c.options ≡ no_options
first_version_has_no_options l c h one = (reading_is_proper l (line.Header c) h).first_version one
