-- A run to whose events nothing was allowed is one under the header that allows nothing.
use Rattle.std.proofs.Common.{◌≡◌, ◌∙◌, ◌+◌, ◌-◌, ◌≤◌, ◌&&◌, not, ℕ, List, [], ◌∷◌, ◌++◌, Bool, true, false, Option, Some, None, inl, inr, refl, sym, ap, ap₂, subst, arith}
use Rattle.std.specs.List.{AllByRecursion}
use Rattle.std.specs.Prelude.{nat_lt, unwrap_or, if◌then◌else◌}
use Rattle.std.proofs.lemmas.Bool.{le-ltb}
use Rattle.qa_base.proofs.machine.RunLaws.{rules_hold}
use Rattle.qa_base.specs.declared.event.Event.{Event}
use Rattle.qa_base.specs.declared.event.Event.TheVariants.{Sent, Timer, Metrics}
use Rattle.qa_base.specs.declared.header.Version.TheVariants.{Three}
use Rattle.qa_base.specs.declared.rule.Field.TheVariants as field
use Rattle.qa_base.specs.declared.rule.Rule.{Rule}
use Rattle.qa_base.specs.declared.rule.Rule.TheVariants as rule
use Rattle.qa_base.specs.declared.space.Permission.TheVariants.{Window}
use Rattle.qa_base.specs.declared.space.TimerKind.TheVariants.{Loss, Pto}
use Rattle.qa_base.specs.machine.Breaches.{is_collapse_missing, is_past_window, is_timer_early, is_timer_late}
use Rattle.qa_base.specs.machine.Detection.{detection_by, looks_at, old_at}
use Rattle.qa_base.specs.machine.Estimates.{rtt, sampled}
use Rattle.qa_base.specs.machine.Loss.{owed}
use Rattle.qa_base.specs.machine.Metrics.{differs, metric_tests, tests}
use Rattle.qa_base.specs.machine.Rules.{IsRun, broken, first_broken, first_of}
use Rattle.qa_base.specs.machine.State.{totals}
use Rattle.qa_base.specs.machine.Timer.{deadline}
use Rattle.qa_base.specs.machine.Window.{unless_same, window_in}
use Rattle.qa_base.specs.values.Constants.{minimum_window}
use Rattle.qa_base.specs.values.Events.{is_in_flight_by, time_of}
use Rattle.qa_base.specs.values.Settings.{Settings, early, in_unit, is_reported}
use Rattle.qa_explain.specs.text.Deadlines.{due_time}
use Rattle.qa_laws.proofs.machine.Alike.{Agree, Detects, Tolerances, like, same_bytes, same_collapse, same_deadline, same_loss_owed, same_not_set, same_other, same_owed, same_packet_deadline, same_past_recovery, same_since, same_totals, same_window, tolerances_of}
use Rattle.qa_laws.proofs.machine.ConductOfTimers.{set_for}
use Rattle.qa_laws.proofs.machine.LowerThreshold.{NoStricter, agree_in, loss_set_passes, not_owed_passes}
use Rattle.qa_violations.proofs.laws_lemmas.Amounts.{collapse_is, early_is, late_is, less_or_not, window_is}
use Rattle.qa_violations.specs.allowed.Allowed.{allowed, before, beyond, early_by, late_by, metric_off, metrics_beyond, past_collapse_by, past_due, past_window, report_beyond}
use Rattle.qa_violations.specs.laws.Strict.{IsAllowedNothing, strict_header}
use Rattle.qa_violations.specs.table.Amounts.{gap, past_collapse}

-- ---- the header

abbrev pub tolerating_nothing : Settings → Tolerances
tolerating_nothing c =
    record (tolerances_of c) {
      version = Three;
      timer_late = Some 0;
      window_overshoot = false;
      timer_early_us = 0;
      report_slack_us = 0;
      report_slack_bytes = 0;
    }

same_thresholds : (c : Settings) → NoStricter c (tolerating_nothing c)
same_thresholds c = ((refl, refl), inl refl)

never_below : (n : ℕ) → nat_lt n 0 ≡ false
never_below n = le-ltb n 0 (omega arith)

-- ---- what an event was not allowed

parts_of_none : {A : Type 0} (xs ys : List A) → xs ++ ys ≡ [] → (xs ≡ []) × (ys ≡ [])
parts_of_none [] ys none = (refl, none)
parts_of_none (x ∷ xs) ys none = cc

abbrev listed : Bool → Rule → ℕ → List (Rule × ℕ)
listed b r amount = if b then (r, amount) ∷ [] else []

if_less : (b : Bool) (r : Rule) (amount : ℕ) → b ≡ true → listed b r amount ≡ [] → amount ≡ 0
if_less true r amount is none = cc
if_less false r amount is none = cc

not_beyond : (r : Rule) (amount : ℕ) → beyond r amount ≡ [] → amount ≡ 0
not_beyond r amount none = elim (less_or_not 0 amount) [
  | inl more ↦ if_less (nat_lt 0 amount) r amount more.0 none
  | inr no_more ↦ (let le = no_more.1 in omega (arith, le))
]

-- each amount of an event that was allowed nothing
record Nothing (c : Settings) (h : List Event) (e : Event) : Type 0 where
  window : past_window (before c h) e ≡ 0
  early : early_by (before c h) e ≡ 0
  report : report_beyond c (before c h) e ≡ []
  late : late_by (before c h) e ≡ 0
  collapse : past_collapse_by c (before c h) e ≡ 0

nothing_of : (c : Settings) (h : List Event) (e : Event) → allowed c h e ≡ [] → Nothing c h e
nothing_of c h e none =
    let b = before c h in
    let window = beyond rule.PastWindow (past_window b e) in
    let early = beyond rule.TimerEarly (early_by b e) in
    let report = report_beyond c b e in
    let late = beyond rule.TimerLate (late_by b e) in
    let fifth = parts_of_none (window ++ early ++ report ++ late) (beyond rule.CollapseMissing (past_collapse_by c b e)) none in
    let fourth = parts_of_none (window ++ early ++ report) late fifth.0 in
    let third = parts_of_none (window ++ early) report fourth.0 in
    let first = parts_of_none window early third.0 in
    record {
      window = not_beyond rule.PastWindow (past_window b e) first.0;
      early = not_beyond rule.TimerEarly (early_by b e) first.1;
      report = third.1;
      late = not_beyond rule.TimerLate (late_by b e) fourth.1;
      collapse = not_beyond rule.CollapseMissing (past_collapse_by c b e) fifth.1;
    }

-- ---- losses are looked for as of the same times

looks_on_time : (tolerance other time due : ℕ) (old : Option ℕ) → old ≡ Some due → due ≤ time → looks_at tolerance time old ≡ looks_at other time old
looks_on_time tolerance other time due None is passed = refl
looks_on_time tolerance other time due (Some n) is passed = let same : n ≡ due = cc in omega (arith, same, passed)

detects_alike : (c : Settings) (e : Event) (h : List Event) → IsRun c (e ∷ h) → early_by (before c h) e ≡ 0
    → detection_by (like c (tolerating_nothing c)) (sampled c (e ∷ h)) (e ∷ h) ≡ detection_by c (sampled c (e ∷ h)) (e ∷ h)
detects_alike c (Timer time Loss space) h run punctual =
    let set = set_for c h time space run in
    let at : due_time (deadline c h) ≡ set.due.time = ap due_time set.set in
    let none : due_time (deadline c h) - time ≡ 0 = punctual in
    ap (λ n. Some (space, n)) (looks_on_time (early (like c (tolerating_nothing c))) (early c) time set.due.time (old_at c (rtt c h) h space) set.old (omega (arith, at, none)))
detects_alike c (Timer time Pto space) h run punctual = refl
detects_alike c _ h run punctual = refl

detects : (c : Settings) (h : List Event) → IsRun c h → IsAllowedNothing c h → Detects c (tolerating_nothing c) h
detects c [] run nothing = tt
detects c (e ∷ h) run nothing = (detects c h run.0 nothing.0, detects_alike c e h run (nothing_of c h e nothing.1).early)

agree : (c : Settings) (h : List Event) → IsRun c h → IsAllowedNothing c h → Agree c (tolerating_nothing c) h
agree c h run nothing = agree_in c (tolerating_nothing c) h (same_thresholds c) (detects c h run nothing) run

-- ---- each rule

abbrev Fail : List (Bool × Rule) → Type 0
Fail tests = AllByRecursion (λ test. test.0 ≡ false) tests

all_fail : (here : Bool) (r : Rule) (tests : List (Bool × Rule)) → here ≡ false → first_of tests ≡ None → first_of ((here, r) ∷ tests) ≡ None
all_fail true r tests none rest = cc
all_fail false r tests none rest = rest

none_broken : (tests : List (Bool × Rule)) → Fail tests → first_of tests ≡ None
none_broken [] all = refl
none_broken (test ∷ tests) all = all_fail test.0 test.1 tests all.0 (none_broken tests all.1)

-- ---- V7

same_past_window : (c : Settings) (t : Tolerances) (h : List Event) (e : Event) → Agree c t h → past_window (before (like c t) h) e ≡ past_window (before c h) e
same_past_window c t h (Sent packet) agrees =
    ap₂ (λ bytes window. if is_in_flight_by Window packet then bytes + packet.size - window else 0) (same_bytes c t h agrees) (same_window c t h agrees)
same_past_window c t h _ agrees = refl

window_fails : (c : Settings) (h : List Event) (e : Event) → Agree c (tolerating_nothing c) h → past_window (before c h) e ≡ 0 → is_past_window (like c (tolerating_nothing c)) h e ≡ false
window_fails c h e agrees none =
    window_is (like c (tolerating_nothing c)) h e refl ∙ ap (nat_lt 0) (same_past_window c (tolerating_nothing c) h e agrees ∙ none)

-- ---- V13

same_early_by : (c : Settings) (t : Tolerances) (h : List Event) (e : Event) → Agree c t h → early_by (before (like c t) h) e ≡ early_by (before c h) e
same_early_by c t h (Timer time kind space) agrees = ap (λ due. due_time due - time) (same_deadline c t h agrees)
same_early_by c t h _ agrees = refl

early_fails : (c : Settings) (h : List Event) (e : Event) → Agree c (tolerating_nothing c) h → early_by (before c h) e ≡ 0 → is_timer_early (like c (tolerating_nothing c)) h e ≡ false
early_fails c h e agrees none =
    let d = like c (tolerating_nothing c) in
    early_is d h e ∙ (ap (nat_lt (early d)) (same_early_by c (tolerating_nothing c) h e agrees ∙ none) ∙ never_below (early d))

-- ---- V18

late_fails : (c : Settings) (h : List Event) (e : Event) → Agree c (tolerating_nothing c) h → late_by (before c h) e ≡ 0 → is_timer_late (like c (tolerating_nothing c)) h e ≡ false
late_fails c h e agrees none =
    let t = tolerating_nothing c in
    let same : late_by (before (like c t) h) e ≡ late_by (before c h) e = ap₂ (λ due since. past_due due since (time_of e)) (same_packet_deadline c t h agrees) (same_since c t h agrees) in
    late_is (like c t) h e 0 refl ∙ (ap (nat_lt (in_unit c.unit 0)) (same ∙ none) ∙ never_below (in_unit c.unit 0))

-- ---- V19

collapse_fails : (c : Settings) (h : List Event) (e : Event) → Agree c (tolerating_nothing c) h → past_collapse_by c (before c h) e ≡ 0 → is_collapse_missing (like c (tolerating_nothing c)) h e ≡ false
collapse_fails c h e agrees none =
    let t = tolerating_nothing c in
    let same : past_collapse_by (like c t) (before (like c t) h) e ≡ past_collapse_by c (before c h) e =
    ap₂ (λ acknowledged window. if is_reported c.options.controller
    then unwrap_or (past_collapse (minimum_window c.max_datagram_size) acknowledged (unless_same window (window_in e))) 0 else 0)
    (same_collapse c t h agrees) (same_window c t h agrees) in
    collapse_is (like c t) h e ∙ ap (nat_lt 0) (same ∙ none)

-- ---- V16

without_slack : (slack other : ℕ) (value held : Option ℕ) → differs slack value held ≡ false → unwrap_or (gap value held) 0 ≡ 0 → differs other value held ≡ false
without_slack slack other None held none off = refl
without_slack slack other (Some n) None none off = cc
without_slack slack other (Some n) (Some m) none off = ap (nat_lt other) off ∙ never_below other

own_without : (is : Bool) (slack : ℕ) (value held : Option ℕ) → (not is && differs slack value held) ≡ false → (if not is then unwrap_or (gap value held) 0 else 0) ≡ 0 → (not is && differs 0 value held) ≡ false
own_without true slack value held none off = refl
own_without false slack value held none off = without_slack slack 0 value held none off

-- each value is as it is held
metrics_fail : (c : Settings) (h : List Event) (e : Event) (before_these after : List (Bool × Rule)) → Agree c (tolerating_nothing c) h → report_beyond c (before c h) e ≡ []
    → (Fail before_these → Fail after) → Fail (metric_tests c h e ++ before_these) → Fail (metric_tests (like c (tolerating_nothing c)) h e ++ after)
metrics_fail c h (Metrics time values) before_these after agrees none rest all =
    let t = tolerating_nothing c in
    let held = totals c h in
    let o = c.options in
    let k = is_reported o.controller in
    let us = in_unit c.unit o.report_slack_us in
    let zero = in_unit c.unit 0 in
    let off = metric_off c values held in
    let more = metrics_beyond c values held in
    let window = parts_of_none (beyond (rule.Metric field.Window) (off field.Window)) (more (field.Ssthresh ∷ field.BytesInFlight ∷ field.LatestRtt ∷ field.MinRtt ∷ field.SmoothedRtt ∷ field.Rttvar ∷ [])) none in
    let ssthresh = parts_of_none (beyond (rule.Metric field.Ssthresh) (off field.Ssthresh)) (more (field.BytesInFlight ∷ field.LatestRtt ∷ field.MinRtt ∷ field.SmoothedRtt ∷ field.Rttvar ∷ [])) window.1 in
    let bytes = parts_of_none (beyond (rule.Metric field.BytesInFlight) (off field.BytesInFlight)) (more (field.LatestRtt ∷ field.MinRtt ∷ field.SmoothedRtt ∷ field.Rttvar ∷ [])) ssthresh.1 in
    let latest = parts_of_none (beyond (rule.Metric field.LatestRtt) (off field.LatestRtt)) (more (field.MinRtt ∷ field.SmoothedRtt ∷ field.Rttvar ∷ [])) bytes.1 in
    let min = parts_of_none (beyond (rule.Metric field.MinRtt) (off field.MinRtt)) (more (field.SmoothedRtt ∷ field.Rttvar ∷ [])) latest.1 in
    let smoothed = parts_of_none (beyond (rule.Metric field.SmoothedRtt) (off field.SmoothedRtt)) (more (field.Rttvar ∷ [])) min.1 in
    let rttvar = parts_of_none (beyond (rule.Metric field.Rttvar) (off field.Rttvar)) [] smoothed.1 in
    subst (λ kept. Fail (tests (like c t) values kept ++ after)) (sym (same_totals c t h agrees)) (
      own_without k o.report_slack_bytes values.window (Some held.window) all.0 (not_beyond (rule.Metric field.Window) (off field.Window) window.0),
      (
        own_without k o.report_slack_bytes values.ssthresh held.ssthresh all.1.0 (not_beyond (rule.Metric field.Ssthresh) (off field.Ssthresh) ssthresh.0),
        (
          without_slack o.report_slack_bytes 0 values.bytes_in_flight (Some held.bytes_in_flight) all.1.1.0 (not_beyond (rule.Metric field.BytesInFlight) (off field.BytesInFlight) bytes.0),
          (
            without_slack us zero values.latest_rtt (Some held.latest_rtt) all.1.1.1.0 (not_beyond (rule.Metric field.LatestRtt) (off field.LatestRtt) latest.0),
            (
              without_slack us zero values.min_rtt (Some held.min_rtt) all.1.1.1.1.0 (not_beyond (rule.Metric field.MinRtt) (off field.MinRtt) min.0),
              (
                without_slack us zero values.smoothed_rtt (Some held.smoothed_rtt) all.1.1.1.1.1.0 (not_beyond (rule.Metric field.SmoothedRtt) (off field.SmoothedRtt) smoothed.0),
                (
                  without_slack us zero values.rttvar (Some held.rttvar) all.1.1.1.1.1.1.0 (not_beyond (rule.Metric field.Rttvar) (off field.Rttvar) rttvar.0),
                  rest all.1.1.1.1.1.1.1,
                ),
              ),
            ),
          ),
        ),
      ),
    )
metrics_fail c h _ before_these after agrees none rest all = rest all

-- ---- an event, and a run

event_is_strict : (c : Settings) (h : List Event) (e : Event) → Detects c (tolerating_nothing c) h → Agree c (tolerating_nothing c) h → Nothing c h e → first_broken c h e ≡ None
    → first_broken (like c (tolerating_nothing c)) h e ≡ None
unfolding first_broken
event_is_strict c h e looks agrees nothing unbroken =
    let t = tolerating_nothing c in
    let d = like c t in
    let holds = rules_hold (broken c h e) unbroken in
    let last = metrics_fail c h e ((is_timer_late c h e, rule.TimerLate) ∷ (is_collapse_missing c h e, rule.CollapseMissing) ∷ [])
    ((is_timer_late d h e, rule.TimerLate) ∷ (is_collapse_missing d h e, rule.CollapseMissing) ∷ []) agrees nothing.report
    (λ all. (late_fails c h e agrees nothing.late, (collapse_fails c h e agrees nothing.collapse, tt))) holds.1.1.1.1.1.1.1.1.1.1.1.1.1.1.1 in
    none_broken (broken d h e) (
      holds.0,
      (
        same_loss_owed c t h agrees e ∙ holds.1.0,
        (
          not_owed_passes c t h (same_thresholds c) looks agrees e holds.1.1.0,
          (
            loss_set_passes c t h (same_thresholds c) looks agrees e holds.1.1.1.0,
            (
              holds.1.1.1.1.0,
              (
                holds.1.1.1.1.1.0,
                (
                  window_fails c h e agrees nothing.window,
                  (
                    holds.1.1.1.1.1.1.1.0,
                    (
                      same_past_recovery c t h agrees e ∙ holds.1.1.1.1.1.1.1.1.0,
                      (
                        holds.1.1.1.1.1.1.1.1.1.0,
                        (
                          same_not_set c t h agrees e ∙ holds.1.1.1.1.1.1.1.1.1.1.0,
                          (
                            same_other c t h agrees e ∙ holds.1.1.1.1.1.1.1.1.1.1.1.0,
                            (
                              early_fails c h e agrees nothing.early,
                              (
                                holds.1.1.1.1.1.1.1.1.1.1.1.1.1.0,
                                (
                                  holds.1.1.1.1.1.1.1.1.1.1.1.1.1.1.0,
                                  last,
                                ),
                              ),
                            ),
                          ),
                        ),
                      ),
                    ),
                  ),
                ),
              ),
            ),
          ),
        ),
      ),
    )

pub run_is_strict : (c : Settings) (h : List Event) → IsRun c h → IsAllowedNothing c h → IsRun (strict_header c) h
run_is_strict c [] run nothing = tt
run_is_strict c (e ∷ h) run nothing =
    (run_is_strict c h run.0 nothing.0, event_is_strict c h e (detects c h run.0 nothing.0) (agree c h run.0 nothing.0) (nothing_of c h e nothing.1) run.1)

pub owed_is_strict : (c : Settings) (h : List Event) → IsRun c h → IsAllowedNothing c h → owed (strict_header c) h ≡ owed c h
owed_is_strict c h run nothing = same_owed c (tolerating_nothing c) h (agree c h run nothing)

pub totals_are_strict : (c : Settings) (h : List Event) → IsRun c h → IsAllowedNothing c h → totals (strict_header c) h ≡ totals c h
totals_are_strict c h run nothing = same_totals c (tolerating_nothing c) h (agree c h run nothing)
