-- Greater tolerances leave a run a run: slack of reported values, late and early timers, a window that may be overshot.
use Rattle.std.proofs.Common.{◌≡◌, ◌∙◌, ◌≤◌, ◌+◌, ◌&&◌, ◌||◌, not, ℕ, List, [], ◌∷◌, ◌++◌, Bool, true, false, Option, Some, None, ◌⊎◌, inl, inr, refl, sym, ap, ap₂, subst, arith, min, max}
use Rattle.std.proofs.Math.Nat.{mul-le-mul_left}
use Rattle.std.proofs.lemmas.Bool.{and_parts, leb-true, le-ltb, lt-leb, ltb-false}
use Rattle.std.specs.List.{AllByRecursion}
use Rattle.std.specs.Prelude.{nat_le}
use Rattle.qa_base.specs.declared.event.Event.{Event}
use Rattle.qa_base.specs.declared.event.Event.TheVariants.{Sent, Timer, Metrics}
use Rattle.qa_base.specs.declared.rule.Rule.{Rule}
use Rattle.qa_base.specs.declared.rule.Rule.TheVariants.{CollapseMissing, TimerLate}
use Rattle.qa_base.specs.declared.space.TimerKind.TheVariants.{Loss, Pto}
use Rattle.qa_base.specs.declared.space.Permission.TheVariants.{Window}
use Rattle.qa_base.specs.machine.Breaches.{is_above_collapse, is_before, is_collapse_missing, is_late_by, is_past, is_past_due, is_past_window, is_timer_early, is_timer_late}
use Rattle.qa_base.specs.machine.Detection.{detection_by, looks_at, old_at}
use Rattle.qa_base.specs.machine.Estimates.{rtt, sampled}
use Rattle.qa_base.specs.machine.Loss.{bytes_in_flight, owed}
use Rattle.qa_base.specs.machine.Metrics.{differs, tests, metric_tests}
use Rattle.qa_base.specs.machine.Rtt.{distance}
use Rattle.qa_base.specs.machine.Rules.{broken, first_of, first_broken, IsRun}
use Rattle.qa_base.specs.machine.Slack.{with_slacks}
use Rattle.qa_base.specs.machine.State.{totals}
use Rattle.qa_base.specs.machine.Timer.{Due, deadline, packet_deadline, set_since}
use Rattle.qa_base.specs.machine.Widths.{Fits}
use Rattle.qa_base.specs.machine.Window.{acknowledged_since_collapse, other_window, window}
use Rattle.qa_base.specs.values.Constants.{minimum_window}
use Rattle.qa_base.specs.values.Events.{time_of, is_in_flight_by}
use Rattle.qa_base.specs.values.Settings.{Settings, early, in_unit, is_reported, per_microsecond}
use Rattle.qa_base.proofs.machine.RunLaws.{rules_hold}
use Rattle.qa_laws.specs.machine.Alike.{IsLooser, IsNoLess}
use Rattle.qa_laws.proofs.machine.Alike.{Agree, Detects, Tolerances, like, like_is, same_bytes, same_collapse, same_deadline, same_loss_owed, same_not_set, same_other, same_owed, same_packet_deadline, same_past_recovery, same_since, same_totals, same_window, tolerances_of}
use Rattle.qa_laws.proofs.machine.ConductOfTimers.{set_for}
use Rattle.qa_laws.proofs.machine.LowerThreshold.{NoStricter, agree_in, loss_set_passes, not_owed_passes}

-- these tolerate no less than the header
pub record Looser (c : Settings) (t : Tolerances) : Type 0 where
  pub threshold : NoStricter c t
  pub late : IsNoLess c.options.timer_late t.timer_late
  pub overshoot : c.options.window_overshoot ≡ true → t.window_overshoot ≡ true
  pub early : c.options.timer_early_us ≤ t.timer_early_us
  pub slack_us : c.options.report_slack_us ≤ t.report_slack_us
  pub slack_bytes : c.options.report_slack_bytes ≤ t.report_slack_bytes

-- ---- early timers: losses are looked for as of the deadline in any case

in_unit_more : (c : Settings) (n more : ℕ) → n ≤ more → in_unit c.unit n ≤ in_unit c.unit more
in_unit_more c n more le = mul-le-mul_left (per_microsecond c.unit) le

least_more : (n m most : ℕ) → n ≤ m → min n most ≤ min m most
least_more n m most le = omega (arith, le)

early_more : (c : Settings) (t : Tolerances) → c.options.timer_early_us ≤ t.timer_early_us → early c ≤ early (like c t)
early_more c t more = in_unit_more c (min c.options.timer_early_us 1000000000) (min t.timer_early_us 1000000000) (least_more c.options.timer_early_us t.timer_early_us 1000000000 more)

looks_alike : (tolerance more time due : ℕ) (old : Option ℕ) → old ≡ Some due → due ≤ time + tolerance → tolerance ≤ more → looks_at more time old ≡ looks_at tolerance time old
looks_alike tolerance more time due None is soon le = cc
looks_alike tolerance more time due (Some n) is soon le = let same : n ≡ due = cc in omega (arith, same, soon, le)

detects_alike : (c : Settings) (t : Tolerances) (e : Event) (h : List Event) → c.options.timer_early_us ≤ t.timer_early_us → IsRun c (e ∷ h)
    → detection_by (like c t) (sampled c (e ∷ h)) (e ∷ h) ≡ detection_by c (sampled c (e ∷ h)) (e ∷ h)
detects_alike c t (Timer time Loss space) h more run =
    let set = set_for c h time space run in
    ap (λ n. Some (space, n)) (looks_alike (early c) (early (like c t)) time set.due.time (old_at c (rtt c h) h space) set.old set.soon (early_more c t more))
detects_alike c t (Timer time Pto space) h more run = refl
detects_alike c t _ h more run = refl

detects_in_run : (c : Settings) (t : Tolerances) (h : List Event) → c.options.timer_early_us ≤ t.timer_early_us → IsRun c h → Detects c t h
detects_in_run c t [] more run = tt
detects_in_run c t (e ∷ h) more run = (detects_in_run c t h more run.0, detects_alike c t e h more run)

pub agree_in_run : (c : Settings) (t : Tolerances) (h : List Event) → NoStricter c t → c.options.timer_early_us ≤ t.timer_early_us → IsRun c h → Agree c t h
agree_in_run c t h no_stricter more run = agree_in c t h no_stricter (detects_in_run c t h more run) run

before_more : (time more : ℕ) (due : Option Due) → time ≤ more → is_before time due ≡ false → is_before more due ≡ false
before_more time more None le is = refl
before_more time more (Some due) le is = let soon = ltb-false time due.time is in le-ltb more due.time (omega (arith, soon, le))

add_more : (time n m : ℕ) → n ≤ m → time + n ≤ time + m
add_more time n m le = omega (arith, le)

early_passes : (c : Settings) (t : Tolerances) (h : List Event) (e : Event) → Agree c t h → c.options.timer_early_us ≤ t.timer_early_us → is_timer_early c h e ≡ false → is_timer_early (like c t) h e ≡ false
early_passes c t h (Timer time kind space) agree more is =
    ap (is_before (time + early (like c t))) (same_deadline c t h agree)
    ∙ before_more (time + early c) (time + early (like c t)) (deadline c h) (add_more time (early c) (early (like c t)) (early_more c t more)) is
early_passes c t h _ agree more is = refl

-- ---- late timers

past_due_more : (limit more began time : ℕ) (due : Option Due) → limit ≤ more → is_past_due limit began time due ≡ false → is_past_due more began time due ≡ false
past_due_more limit more began time None le is = refl
past_due_more limit more began time (Some due) le is =
    let within = ltb-false (max due.time began + limit) time is in le-ltb (max due.time began + more) time (omega (arith, within, le))

late_more : (c : Settings) (h : List Event) (time : ℕ) (limit more : Option ℕ) → IsNoLess limit more → is_late_by c h time limit ≡ false → is_late_by c h time more ≡ false
late_more c h time limit None le is = refl
late_more c h time None (Some m) le is = absurd le
late_more c h time (Some n) (Some m) le is = past_due_more (in_unit c.unit n) (in_unit c.unit m) (set_since c h) time (packet_deadline c h) (in_unit_more c n m le) is

pub same_late : (c : Settings) (t : Tolerances) (h : List Event) → Agree c t h → (time : ℕ) (limit : Option ℕ) → is_late_by (like c t) h time limit ≡ is_late_by c h time limit
same_late c t h agree time None = refl
same_late c t h agree time (Some limit) = ap₂ (λ began due. is_past_due (in_unit c.unit limit) began time due) (same_since c t h agree) (same_packet_deadline c t h agree)

-- ---- a window that may be overshot

past_more : (o p : Bool) (window bytes size : ℕ) → (o ≡ true → p ≡ true) → ((o ≡ p) ⊎ (1 ≤ size)) → is_past o window bytes size ≡ false → is_past p window bytes size ≡ false
past_more true true window bytes size more room is = is
past_more false false window bytes size more room is = is
past_more true false window bytes size more room is = let never = more refl in cc
past_more false true window bytes size more room is = elim room [
  | inl same ↦ cc
  | inr some ↦ (let within = ltb-false window (bytes + size) is in lt-leb window bytes (omega (arith, within, some)))
]

and_more : (b x y : Bool) → (x ≡ false → y ≡ false) → (b && x) ≡ false → (b && y) ≡ false
and_more true x y more is = more is
and_more false x y more is = refl

-- the event is of a packet that has bytes, or the window may be overshot as before
abbrev Room : Settings → Tolerances → Event → Type 0
Room c t e = (c.options.window_overshoot ≡ t.window_overshoot) ⊎ Fits e

sized : (o p : Bool) (size : ℕ) (small flies : Bool) → ((o ≡ p) ⊎ ((nat_le 1 size && small && flies) ≡ true)) → (o ≡ p) ⊎ (1 ≤ size)
sized o p size small flies room = elim room [
  | inl same ↦ inl same
  | inr fits ↦ inr (leb-true 1 size (and_parts (nat_le 1 size) small (and_parts (nat_le 1 size && small) flies fits).0).0)
]

window_passes : (c : Settings) (t : Tolerances) (h : List Event) (e : Event) → Agree c t h → (c.options.window_overshoot ≡ true → t.window_overshoot ≡ true) → Room c t e
    → is_past_window c h e ≡ false → is_past_window (like c t) h e ≡ false
window_passes c t h (Sent packet) agree more room is =
    ap₂ (λ limit n. is_in_flight_by Window packet && is_past t.window_overshoot limit n packet.size) (same_window c t h agree) (same_bytes c t h agree)
    ∙ and_more (is_in_flight_by Window packet) (is_past c.options.window_overshoot (window c h) (bytes_in_flight c h) packet.size) (is_past t.window_overshoot (window c h) (bytes_in_flight c h) packet.size)
    (past_more c.options.window_overshoot t.window_overshoot (window c h) (bytes_in_flight c h) packet.size more
    (sized c.options.window_overshoot t.window_overshoot packet.size (nat_le packet.size 65527) (not packet.eliciting || packet.in_flight) room)) is
window_passes c t h _ agree more room is = refl

-- ---- slack

within : (slack more : ℕ) (value held : Option ℕ) → slack ≤ more → differs slack value held ≡ false → differs more value held ≡ false
within slack more None held least none = refl
within slack more (Some n) None least none = cc
within slack more (Some n) (Some m) least none =
    let near = ltb-false slack (distance n m) none in
    le-ltb more (distance n m) (omega (arith, near, least))

above_more : (least more : ℕ) (report acknowledged : Option ℕ) → least ≤ more → is_above_collapse least report acknowledged ≡ false → is_above_collapse more report acknowledged ≡ false
above_more least more None acknowledged le is = refl
above_more least more (Some n) None le is = refl
above_more least more (Some n) (Some m) le is = let small = ltb-false (least + m) n is in le-ltb (more + m) n (omega (arith, small, le))

collapse_passes : (c : Settings) (t : Tolerances) (h : List Event) (e : Event) → Agree c t h → c.options.report_slack_bytes ≤ t.report_slack_bytes → is_collapse_missing c h e ≡ false
    → is_collapse_missing (like c t) h e ≡ false
collapse_passes c t h e agree more is =
    let least = minimum_window c.max_datagram_size in
    ap (λ acknowledged. is_reported c.options.controller && is_above_collapse (least + t.report_slack_bytes) (other_window c h e) acknowledged) (same_collapse c t h agree)
    ∙ and_more (is_reported c.options.controller) (is_above_collapse (least + c.options.report_slack_bytes) (other_window c h e) (acknowledged_since_collapse c h))
    (is_above_collapse (least + t.report_slack_bytes) (other_window c h e) (acknowledged_since_collapse c h))
    (above_more (least + c.options.report_slack_bytes) (least + t.report_slack_bytes) (other_window c h e) (acknowledged_since_collapse c h)
    (add_more least c.options.report_slack_bytes t.report_slack_bytes more)) is

-- ---- the rules

-- each test fails
abbrev Fail : List (Bool × Rule) → Type 0
Fail tests = AllByRecursion (λ test. test.0 ≡ false) tests

all_fail : (here : Bool) (r : Rule) (tests : List (Bool × Rule)) → here ≡ false → first_of tests ≡ None → first_of ((here, r) ∷ tests) ≡ None
all_fail true r tests none rest = cc
all_fail false r tests none rest = rest

none_broken : (tests : List (Bool × Rule)) → Fail tests → first_of tests ≡ None
none_broken [] all = refl
none_broken (test ∷ tests) all = all_fail test.0 test.1 tests all.0 (none_broken tests all.1)

own_within : (b : Bool) (slack more : ℕ) (value held : Option ℕ) → slack ≤ more → (b && differs slack value held) ≡ false → (b && differs more value held) ≡ false
own_within b slack more value held le is = and_more b (differs slack value held) (differs more value held) (within slack more value held le) is

metrics_pass : (c : Settings) (t : Tolerances) (h : List Event) (e : Event) (before after : List (Bool × Rule)) → Agree c t h → Looser c t
    → (Fail before → Fail after) → Fail (metric_tests c h e ++ before) → Fail (metric_tests (like c t) h e ++ after)
metrics_pass c t h (Metrics time values) before after agree looser rest all =
    let held = totals c h in
    let o = c.options in
    let own = not (is_reported c.options.controller) in
    let us = in_unit_more c o.report_slack_us t.report_slack_us looser.slack_us in
    subst (λ kept. Fail (tests (like c t) values kept ++ after)) (sym (same_totals c t h agree)) (
      own_within own o.report_slack_bytes t.report_slack_bytes values.window (Some held.window) looser.slack_bytes all.0,
      (
        own_within own o.report_slack_bytes t.report_slack_bytes values.ssthresh held.ssthresh looser.slack_bytes all.1.0,
        (
          within o.report_slack_bytes t.report_slack_bytes values.bytes_in_flight (Some held.bytes_in_flight) looser.slack_bytes all.1.1.0,
          (
            within (in_unit c.unit o.report_slack_us) (in_unit c.unit t.report_slack_us) values.latest_rtt (Some held.latest_rtt) us all.1.1.1.0,
            (
              within (in_unit c.unit o.report_slack_us) (in_unit c.unit t.report_slack_us) values.min_rtt (Some held.min_rtt) us all.1.1.1.1.0,
              (
                within (in_unit c.unit o.report_slack_us) (in_unit c.unit t.report_slack_us) values.smoothed_rtt (Some held.smoothed_rtt) us all.1.1.1.1.1.0,
                (
                  within (in_unit c.unit o.report_slack_us) (in_unit c.unit t.report_slack_us) values.rttvar (Some held.rttvar) us all.1.1.1.1.1.1.0,
                  rest all.1.1.1.1.1.1.1,
                ),
              ),
            ),
          ),
        ),
      ),
    )
metrics_pass c t h _ before after agree looser rest all = rest all

stays_allowed : (c : Settings) (t : Tolerances) (h : List Event) (e : Event) → Detects c t h → Agree c t h → Looser c t → Room c t e → first_broken c h e ≡ None → first_broken (like c t) h e ≡ None
unfolding first_broken
stays_allowed c t h e detects agree looser room allowed =
    let d = like c t in
    let holds = rules_hold (broken c h e) allowed in
    let last = metrics_pass c t h e ((is_timer_late c h e, TimerLate) ∷ (is_collapse_missing c h e, CollapseMissing) ∷ []) ((is_timer_late d h e, TimerLate) ∷ (is_collapse_missing d h e, CollapseMissing) ∷ [])
    agree looser (λ all. (same_late c t h agree (time_of e) t.timer_late ∙ late_more c h (time_of e) c.options.timer_late t.timer_late looser.late all.0, (collapse_passes c t h e agree looser.slack_bytes all.1.0, tt)))
    holds.1.1.1.1.1.1.1.1.1.1.1.1.1.1.1 in
    none_broken (broken d h e) (
      holds.0,
      (
        same_loss_owed c t h agree e ∙ holds.1.0,
        (
          not_owed_passes c t h looser.threshold detects agree e holds.1.1.0,
          (
            loss_set_passes c t h looser.threshold detects agree e holds.1.1.1.0,
            (
              holds.1.1.1.1.0,
              (
                holds.1.1.1.1.1.0,
                (
                  window_passes c t h e agree looser.overshoot room holds.1.1.1.1.1.1.0,
                  (
                    holds.1.1.1.1.1.1.1.0,
                    (
                      same_past_recovery c t h agree e ∙ holds.1.1.1.1.1.1.1.1.0,
                      (
                        holds.1.1.1.1.1.1.1.1.1.0,
                        (
                          same_not_set c t h agree e ∙ holds.1.1.1.1.1.1.1.1.1.1.0,
                          (
                            same_other c t h agree e ∙ holds.1.1.1.1.1.1.1.1.1.1.1.0,
                            (
                              early_passes c t h e agree looser.early holds.1.1.1.1.1.1.1.1.1.1.1.1.0,
                              (
                                holds.1.1.1.1.1.1.1.1.1.1.1.1.1.0,
                                (
                                  holds.1.1.1.1.1.1.1.1.1.1.1.1.1.1.0,
                                  last,
                                ),
                              ),
                            ),
                          ),
                        ),
                      ),
                    ),
                  ),
                ),
              ),
            ),
          ),
        ),
      ),
    )

-- ---- runs

rooms : (c : Settings) (t : Tolerances) (e : Event) (h : List Event) → ((c.options.window_overshoot ≡ t.window_overshoot) ⊎ AllByRecursion Fits (e ∷ h))
    → Room c t e × ((c.options.window_overshoot ≡ t.window_overshoot) ⊎ AllByRecursion Fits h)
rooms c t e h room = elim room [
  | inl same ↦ (inl same, inl same)
  | inr fit ↦ (inr fit.0, inr fit.1)
]

run_stays : (c : Settings) (t : Tolerances) (h : List Event) → Looser c t → ((c.options.window_overshoot ≡ t.window_overshoot) ⊎ AllByRecursion Fits h) → IsRun c h → IsRun (like c t) h
run_stays c t [] looser room run = tt
run_stays c t (e ∷ h) looser room run =
    let rest = rooms c t e h room in
    (run_stays c t h looser rest.1 run.0, stays_allowed c t h e (detects_in_run c t h looser.early run.0) (agree_in_run c t h looser.threshold looser.early run.0) looser rest.0 run.1)

-- a run stays a run where no less is tolerated
pub run_if_looser : (c d : Settings) (h : List Event) → IsLooser c d → AllByRecursion Fits h → IsRun c h → IsRun d h
run_if_looser c d h looser fit run =
    let t = tolerances_of d in
    subst (λ (s : Settings). IsRun s h) (like_is c d looser.alike)
    (run_stays c t h (record { threshold = ((looser.alike.loss_by_number, looser.alike.threshold_counts), looser.threshold); late = looser.late; overshoot = looser.overshoot; early = looser.early; slack_us = looser.slack_us; slack_bytes = looser.slack_bytes }) (inr fit) run)

same_limit : (limit : Option ℕ) → IsNoLess limit limit
same_limit None = tt
same_limit (Some n) = omega arith

-- and it owes the same
pub owes_the_same : (c d : Settings) (h : List Event) → IsLooser c d → IsRun c h → owed d h ≡ owed c h
owes_the_same c d h looser run =
    let t = tolerances_of d in
    subst (λ (s : Settings). owed s h ≡ owed c h) (like_is c d looser.alike) (same_owed c t h (agree_in_run c t h ((looser.alike.loss_by_number, looser.alike.threshold_counts), looser.threshold) looser.early run))

-- and where slacks alone are greater
pub run_with_more_slack : (c : Settings) (us bytes : ℕ) (h : List Event) → c.options.report_slack_us ≤ us → c.options.report_slack_bytes ≤ bytes → IsRun c h → IsRun (with_slacks c us bytes) h
run_with_more_slack c us bytes h more_us more_bytes run =
    run_stays c (record (tolerances_of c) { report_slack_us = us; report_slack_bytes = bytes }) h
    (record { threshold = ((refl, refl), inl refl); late = same_limit c.options.timer_late; overshoot = λ is. is; early = omega arith; slack_us = more_us; slack_bytes = more_bytes }) (inl refl) run
