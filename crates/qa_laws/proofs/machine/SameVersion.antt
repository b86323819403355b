-- A header in another version asks the same.
use Rattle.qa_base.specs.declared.space.LossByNumber.{LossByNumber}
use Rattle.qa_base.specs.declared.space.ThresholdCounts.{ThresholdCounts}
use Rattle.std.proofs.Common.{◌≡◌, ◌∙◌, ◌+◌, ◌&&◌, ◌↔◌, List, [], ◌∷◌, ◌++◌, Bool, true, false, Result, Ok, Err, refl, sym, ap, ap₂, subst}
use Rattle.std.specs.Prelude.{if◌then◌else◌, unwrap_or}
use Rattle.qa_base.specs.declared.event.Event.{Event}
use Rattle.qa_base.specs.declared.event.Event.TheVariants.{Sent, Timer, Metrics}
use Rattle.qa_base.specs.declared.header.Version.{Version}
use Rattle.qa_base.specs.declared.header.Version.TheVariants.{Three}
use Rattle.qa_base.specs.declared.key.Key.TheVariants as key
use Rattle.qa_base.specs.declared.key.RangeFault.{RangeFault}
use Rattle.qa_base.specs.declared.rule.Rule.{Rule}
use Rattle.qa_base.specs.declared.rule.Rule.TheVariants as rule
use Rattle.qa_base.specs.declared.space.Permission.TheVariants.{Window}
use Rattle.qa_base.specs.machine.Breaches.{is_above_collapse, is_ack_unsent, is_before, is_collapse_missing, is_not_confirmed, is_number_not_higher, is_past, is_past_probe, is_past_window, is_probe_owed, is_space_gone, is_time_back, is_timer_early, is_timer_late}
use Rattle.qa_base.specs.machine.Loss.{nameable}
use Rattle.qa_base.specs.machine.Metrics.{metric_tests, tests}
use Rattle.qa_base.specs.machine.Rules.{broken, first_of, first_broken, IsComplete, IsRun}
use Rattle.qa_base.specs.machine.State.{totals}
use Rattle.qa_base.specs.machine.Window.{other_window}
use Rattle.qa_base.specs.values.Constants.{minimum_window}
use Rattle.qa_base.specs.values.Events.{time_of, is_in_flight_by}
use Rattle.qa_base.specs.values.Settings.{Settings, choosing_options, early, is_outside, is_reported, spares_unreported}
use Rattle.qa_base.specs.values.Limits.{max_timer_late, max_report_slack_us, max_report_slack_bytes, min_packet_threshold, max_packet_threshold, max_timer_early_us, min_time_threshold_eighths, max_time_threshold_eighths}
use Rattle.qa_laws.specs.machine.Alike.{of_version}
use Rattle.qa_laws.proofs.machine.Alike.{Agree, Tolerances, agree_if_equally_early, detects_if_equally_early, same_bytes, same_collapse, same_deadline, same_loss_not_owed, same_loss_owed, same_loss_set, same_nameable, same_not_set, same_other, same_owed, same_past_recovery, same_totals, same_window, tolerances_of, like}
use Rattle.qa_laws.proofs.machine.Looser.{same_late}

-- what the header says of them, but for its version, for losses by number and for how those are counted
abbrev pub varied : Settings → Version → LossByNumber → ThresholdCounts → Tolerances
varied c version losses counts = record (tolerances_of c) { version = version; loss_by_number = losses; threshold_counts = counts }

-- the header with these
abbrev vary : Settings → Version → LossByNumber → ThresholdCounts → Settings
vary c version losses counts = like c (varied c version losses counts)

-- ---- the rules

same_past_window : (c : Settings) (version : Version) (losses : LossByNumber) (counts : ThresholdCounts) (h : List Event) → Agree c (varied c version losses counts) h → (e : Event) → is_past_window (vary c version losses counts) h e ≡ is_past_window c h e
same_past_window c version losses counts h a (Sent packet) =
    ap₂ (λ limit n. is_in_flight_by Window packet && is_past c.options.window_overshoot limit n packet.size) (same_window c (varied c version losses counts) h a) (same_bytes c (varied c version losses counts) h a)
same_past_window c version losses counts h a _ = refl

same_timer_early : (c : Settings) (version : Version) (losses : LossByNumber) (counts : ThresholdCounts) (h : List Event) → Agree c (varied c version losses counts) h → (e : Event) → is_timer_early (vary c version losses counts) h e ≡ is_timer_early c h e
same_timer_early c version losses counts h a (Timer time kind space) = ap (is_before (time + early c)) (same_deadline c (varied c version losses counts) h a)
same_timer_early c version losses counts h a _ = refl

same_missing : (c : Settings) (version : Version) (losses : LossByNumber) (counts : ThresholdCounts) (h : List Event) → Agree c (varied c version losses counts) h → (e : Event) → is_collapse_missing (vary c version losses counts) h e ≡ is_collapse_missing c h e
same_missing c version losses counts h a e =
    ap (λ acknowledged. is_reported c.options.controller && is_above_collapse (minimum_window c.max_datagram_size + c.options.report_slack_bytes) (other_window c h e) acknowledged)
    (same_collapse c (varied c version losses counts) h a)

same_metrics : (c : Settings) (version : Version) (losses : LossByNumber) (counts : ThresholdCounts) (h : List Event) → Agree c (varied c version losses counts) h → (e : Event) → metric_tests (vary c version losses counts) h e ≡ metric_tests c h e
same_metrics c version losses counts h a (Metrics time values) = ap (tests c values) (same_totals c (varied c version losses counts) h a)
same_metrics c version losses counts h a _ = refl

beside : (r : Rule) (a b : Bool) (xs ys : List (Bool × Rule)) → a ≡ b → xs ≡ ys → (a, r) ∷ xs ≡ (b, r) ∷ ys
beside r a b xs ys same rest = ap₂ (λ k more. (k, r) ∷ more) same rest

-- where they agree, and a Lost line may name the same, it breaks the same rules
pub same_tests_by : (c : Settings) (version : Version) (losses : LossByNumber) (counts : ThresholdCounts) (h : List Event) → Agree c (varied c version losses counts) h → nameable (vary c version losses counts) h ≡ nameable c h → (e : Event) → broken (vary c version losses counts) h e ≡ broken c h e
same_tests_by c version losses counts h a may_name e =
    let d = vary c version losses counts in
    let t = varied c version losses counts in
    let late : is_timer_late d h e ≡ is_timer_late c h e = same_late c t h a (time_of e) c.options.timer_late in
    let ends = ap₂ (λ here there. (here, rule.TimerLate) ∷ (there, rule.CollapseMissing) ∷ []) late (same_missing c version losses counts h a e) in
    let metrics = ap₂ (λ ms more. ms ++ more) (same_metrics c version losses counts h a e) ends in
    let own = ap₂ (λ timer more. (timer, rule.TimerEarly) ∷ (is_probe_owed h e, rule.ProbeOwed) ∷ (is_not_confirmed h e, rule.NotConfirmed) ∷ more) (same_timer_early c version losses counts h a e) metrics in
    let other = ap₂ (λ timer more. (timer, rule.TimerOther) ∷ more) (same_other c t h a e) own in
    let set = ap₂ (λ timer more. (is_ack_unsent h e, rule.AckUnsent) ∷ (timer, rule.TimerNotSet) ∷ more) (same_not_set c t h a e) other in
    let recovery = ap₂ (λ past more. (is_past_probe c h e, rule.PastProbe) ∷ (past, rule.PastRecovery) ∷ more) (same_past_recovery c t h a e) set in
    let past = ap₂ (λ past more. (is_space_gone h e, rule.SpaceGone) ∷ (is_number_not_higher h e, rule.NumberNotHigher) ∷ (past, rule.PastWindow) ∷ more) (same_past_window c version losses counts h a e) recovery in
    let losses = ap₂ (λ other more. (other, rule.LossSet) ∷ more) (same_loss_set c t h a may_name e) past in
    let unowed = ap₂ (λ not_owed more. (not_owed, rule.LossNotOwed) ∷ more) (same_loss_not_owed c t h may_name e) losses in
    ap₂ (λ is_owed more. (is_time_back h e, rule.TimeBack) ∷ (is_owed, rule.LossOwed) ∷ more) (same_loss_owed c t h a e) unowed

-- and the same first
pub same_broken_by : (c : Settings) (version : Version) (losses : LossByNumber) (counts : ThresholdCounts) (h : List Event) → Agree c (varied c version losses counts) h → nameable (vary c version losses counts) h ≡ nameable c h → (e : Event) → first_broken (vary c version losses counts) h e ≡ first_broken c h e
unfolding first_broken
same_broken_by c version losses counts h a may_name e = ap first_of (same_tests_by c version losses counts h a may_name e)

-- ---- a version alone

agree : (c : Settings) (version : Version) (h : List Event) → Agree c (varied c version c.options.loss_by_number c.options.threshold_counts) h
agree c version h = agree_if_equally_early c (varied c version c.options.loss_by_number c.options.threshold_counts) h ((refl, refl), refl) refl

may_name : (c : Settings) (version : Version) (h : List Event) → nameable (of_version c version) h ≡ nameable c h
may_name c version h = let t = varied c version c.options.loss_by_number c.options.threshold_counts in same_nameable c t h ((refl, refl), refl) (detects_if_equally_early c t h refl)

pub same_broken : (c : Settings) (version : Version) (h : List Event) (e : Event) → first_broken (of_version c version) h e ≡ first_broken c h e
same_broken c version h e = same_broken_by c version c.options.loss_by_number c.options.threshold_counts h (agree c version h) (may_name c version h) e

-- ---- totals, runs and their ends

pub same_held : (c : Settings) (version : Version) (h : List Event) → totals (of_version c version) h ≡ totals c h
same_held c version h = same_totals c (varied c version c.options.loss_by_number c.options.threshold_counts) h (agree c version h)

run_there : (c : Settings) (version : Version) (h : List Event) → IsRun c h → IsRun (of_version c version) h
run_there c version [] run = tt
run_there c version (e ∷ h) run = (run_there c version h run.0, same_broken c version h e ∙ run.1)

run_back : (c : Settings) (version : Version) (h : List Event) → IsRun (of_version c version) h → IsRun c h
run_back c version [] run = tt
run_back c version (e ∷ h) run = (run_back c version h run.0, sym (same_broken c version h e) ∙ run.1)

pub same_runs : (c : Settings) (version : Version) (h : List Event) → IsRun (of_version c version) h ↔ IsRun c h
same_runs c version h = (run_back c version h, run_there c version h)

pub same_ends : (c : Settings) (version : Version) (h : List Event) → IsComplete (of_version c version) h ↔ IsComplete c h
same_ends c version h = let same = same_owed c (varied c version c.options.loss_by_number c.options.threshold_counts) h (agree c version h) in (λ none. sym same ∙ none, λ none. same ∙ none)

-- ---- a header that is chosen to be of version 3, with the options that it had

unless : (bad : Bool) (fault : RangeFault) (rest : Result Settings RangeFault) (d : Settings) → (if bad then Err fault else rest) ≡ Ok d → rest ≡ Ok d
unless true fault rest d is = cc
unless false fault rest d is = is

one_value : (s d : Settings) → ◌≡◌ {A = Result Settings RangeFault} (Ok s) (Ok d) → s ≡ d
one_value s d is = cc

chosen_is : (s d : Settings) → choosing_options s s.options ≡ Ok d → of_version s Three ≡ d
chosen_is s d is =
    let o = s.options in
    let late = unless (is_outside 0 max_timer_late (unwrap_or o.timer_late 0)) (record { 0 = key.TimerLateUs }) _ d is in
    let slack_us = unless (is_outside 0 max_report_slack_us o.report_slack_us) (record { 0 = key.ReportSlackUs }) _ d late in
    let slack_bytes = unless (is_outside 0 max_report_slack_bytes o.report_slack_bytes) (record { 0 = key.ReportSlackBytes }) _ d slack_us in
    let threshold = unless (is_outside min_packet_threshold max_packet_threshold o.packet_threshold) (record { 0 = key.PacketThreshold }) _ d slack_bytes in
    let early = unless (is_outside 0 max_timer_early_us o.timer_early_us) (record { 0 = key.TimerEarlyUs }) _ d threshold in
    let spared = unless (spares_unreported o) (record { 0 = key.LossByNumber }) _ d early in
    one_value (of_version s Three) d
    (unless (is_outside min_time_threshold_eighths max_time_threshold_eighths o.time_threshold_eighths) (record { 0 = key.TimeThresholdEighths }) _ d spared)

pub chosen_asks_the_same : (s d : Settings) (h : List Event) (e : Event) → choosing_options s s.options ≡ Ok d → first_broken d h e ≡ first_broken s h e
chosen_asks_the_same s d h e is = subst (λ (k : Settings). first_broken k h e ≡ first_broken s h e) (chosen_is s d is) (same_broken s Three h e)
