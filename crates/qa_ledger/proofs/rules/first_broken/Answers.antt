use Rattle.std.proofs.Common.{◌≡◌, ◌∙◌, [], ◌∷◌, ◌++◌, Bool, true, List, None, Some, false, sym, ap, ap₂, rules}
use Rattle.qa_base.specs.declared.event.Event.{Event}
use Rattle.qa_base.specs.declared.rule.Rule.{Rule}
use Rattle.qa_base.specs.declared.rule.Rule.TheVariants as rule
use Rattle.qa_base.specs.machine.Breaches.{is_time_back, is_loss_owed, is_loss_not_owed, is_other_loss_set, is_space_gone, is_number_not_higher, is_past_window, is_past_probe, is_past_recovery, is_ack_unsent, is_timer_not_set, is_timer_other, is_timer_early, is_probe_owed, is_not_confirmed, is_timer_late, is_collapse_missing}
use Rattle.qa_base.specs.machine.Metrics.{metric_tests}
use Rattle.qa_base.specs.machine.Rules.{first_broken, first_of}
use Rattle.qa_base.specs.values.Settings.{Settings}
use Rattle.qa_ledger.proofs.Firsts.{first_among, first_behind, first_from_v16}
use Rattle.qa_ledger.proofs.rules.first_broken.Goals as goal

-- the tests behind those of reported values
abbrev last_tests : Settings → List Event → Event → List (Bool × Rule)
last_tests c h e = (is_timer_late c h e, rule.TimerLate) ∷ (is_collapse_missing c h e, rule.CollapseMissing) ∷ []

-- Written out, so that a wrong order is refused at this line.
pub returns-then-is_loss_not_owed : goal.returns-then-is_loss_not_owed
unfolding first_broken
returns-then-is_loss_not_owed g c = search rules

pub returns-in-Some : goal.returns-in-Some
unfolding first_broken
returns-in-Some g c s h tells =
    let e = c.args.event.now in
    let late = last_tests s h e in
    let rest : List (Bool × Rule) = metric_tests s h e ++ last_tests s h e in
    let none : first_broken s h e ≡ first_of rest =
    first_from_v16 (is_time_back h e) (is_loss_owed s h e) (is_loss_not_owed s h e) (is_other_loss_set s h e) (is_space_gone h e) (is_number_not_higher h e) (is_past_window s h e) (is_past_probe s h e) (is_past_recovery s h e) (is_ack_unsent h e) (is_timer_not_set s h e) (is_timer_other s h e) (is_timer_early s h e) (is_probe_owed h e) (is_not_confirmed h e) rest
    (sym (c.is_time_back.ensures s h tells) ∙ c.if-is_time_back.false) (sym (c.is_loss_owed.ensures s h tells) ∙ c.if-is_loss_owed.false) (sym (c.is_loss_not_owed.ensures s h tells) ∙ c.if-is_loss_not_owed.false) (sym (c.is_other_loss_set.ensures s h tells) ∙ c.if-is_other_loss_set.false) (sym (c.is_space_gone.ensures s h tells) ∙ c.if-is_space_gone.false) (sym (c.is_number_not_higher.ensures s h tells) ∙ c.if-is_number_not_higher.false) (sym (c.is_past_window.ensures s h tells) ∙ c.if-is_past_window.false) (sym (c.is_past_probe.ensures s h tells) ∙ c.if-is_past_probe.false) (sym (c.is_past_recovery.ensures s h tells) ∙ c.if-is_past_recovery.false) (sym (c.is_ack_unsent.ensures s h tells) ∙ c.if-is_ack_unsent.false) (sym (c.is_timer_not_set.ensures s h (c.deadline_at-due.ensures s h tells)) ∙ c.if-is_timer_not_set.false) (sym (c.is_timer_other.ensures s h (c.deadline_at-due.ensures s h tells)) ∙ c.if-is_timer_other.false) (sym (c.is_timer_early.ensures s h tells (c.deadline_at-due.ensures s h tells)) ∙ c.if-is_timer_early.false) (sym (c.is_probe_owed.ensures s h tells) ∙ c.if-is_probe_owed.false) (sym (c.is_not_confirmed.ensures s h tells) ∙ c.if-is_not_confirmed.false) in
    let here : first_of (metric_tests s h e) ≡ Some c.in-Some.rule = search rules in
    sym (none ∙ first_among (metric_tests s h e) late c.in-Some.rule here)

pub returns-then-is_timer_late : goal.returns-then-is_timer_late
unfolding first_broken
returns-then-is_timer_late g c s h tells =
    let e = c.args.event.now in
    let late = last_tests s h e in
    let rest : List (Bool × Rule) = metric_tests s h e ++ last_tests s h e in
    let none : first_broken s h e ≡ first_of rest =
    first_from_v16 (is_time_back h e) (is_loss_owed s h e) (is_loss_not_owed s h e) (is_other_loss_set s h e) (is_space_gone h e) (is_number_not_higher h e) (is_past_window s h e) (is_past_probe s h e) (is_past_recovery s h e) (is_ack_unsent h e) (is_timer_not_set s h e) (is_timer_other s h e) (is_timer_early s h e) (is_probe_owed h e) (is_not_confirmed h e) rest
    (sym (c.is_time_back.ensures s h tells) ∙ c.if-is_time_back.false) (sym (c.is_loss_owed.ensures s h tells) ∙ c.if-is_loss_owed.false) (sym (c.is_loss_not_owed.ensures s h tells) ∙ c.if-is_loss_not_owed.false) (sym (c.is_other_loss_set.ensures s h tells) ∙ c.if-is_other_loss_set.false) (sym (c.is_space_gone.ensures s h tells) ∙ c.if-is_space_gone.false) (sym (c.is_number_not_higher.ensures s h tells) ∙ c.if-is_number_not_higher.false) (sym (c.is_past_window.ensures s h tells) ∙ c.if-is_past_window.false) (sym (c.is_past_probe.ensures s h tells) ∙ c.if-is_past_probe.false) (sym (c.is_past_recovery.ensures s h tells) ∙ c.if-is_past_recovery.false) (sym (c.is_ack_unsent.ensures s h tells) ∙ c.if-is_ack_unsent.false) (sym (c.is_timer_not_set.ensures s h (c.deadline_at-due.ensures s h tells)) ∙ c.if-is_timer_not_set.false) (sym (c.is_timer_other.ensures s h (c.deadline_at-due.ensures s h tells)) ∙ c.if-is_timer_other.false) (sym (c.is_timer_early.ensures s h tells (c.deadline_at-due.ensures s h tells)) ∙ c.if-is_timer_early.false) (sym (c.is_probe_owed.ensures s h tells) ∙ c.if-is_probe_owed.false) (sym (c.is_not_confirmed.ensures s h tells) ∙ c.if-is_not_confirmed.false) in
    let no_metrics : first_of (metric_tests s h e) ≡ None = search rules in
    let is_late : is_timer_late s h e ≡ true = sym (c.is_timer_late.ensures s h tells) ∙ c.if-is_timer_late.true in
    sym (none ∙ (first_behind (metric_tests s h e) late no_metrics ∙ ap (λ (b : Bool). first_of ((b, rule.TimerLate) ∷ (is_collapse_missing s h e, rule.CollapseMissing) ∷ [])) is_late))

pub returns-then-is_collapse_missing : goal.returns-then-is_collapse_missing
unfolding first_broken
returns-then-is_collapse_missing g c s h tells =
    let e = c.args.event.now in
    let late = last_tests s h e in
    let rest : List (Bool × Rule) = metric_tests s h e ++ last_tests s h e in
    let none : first_broken s h e ≡ first_of rest =
    first_from_v16 (is_time_back h e) (is_loss_owed s h e) (is_loss_not_owed s h e) (is_other_loss_set s h e) (is_space_gone h e) (is_number_not_higher h e) (is_past_window s h e) (is_past_probe s h e) (is_past_recovery s h e) (is_ack_unsent h e) (is_timer_not_set s h e) (is_timer_other s h e) (is_timer_early s h e) (is_probe_owed h e) (is_not_confirmed h e) rest
    (sym (c.is_time_back.ensures s h tells) ∙ c.if-is_time_back.false) (sym (c.is_loss_owed.ensures s h tells) ∙ c.if-is_loss_owed.false) (sym (c.is_loss_not_owed.ensures s h tells) ∙ c.if-is_loss_not_owed.false) (sym (c.is_other_loss_set.ensures s h tells) ∙ c.if-is_other_loss_set.false) (sym (c.is_space_gone.ensures s h tells) ∙ c.if-is_space_gone.false) (sym (c.is_number_not_higher.ensures s h tells) ∙ c.if-is_number_not_higher.false) (sym (c.is_past_window.ensures s h tells) ∙ c.if-is_past_window.false) (sym (c.is_past_probe.ensures s h tells) ∙ c.if-is_past_probe.false) (sym (c.is_past_recovery.ensures s h tells) ∙ c.if-is_past_recovery.false) (sym (c.is_ack_unsent.ensures s h tells) ∙ c.if-is_ack_unsent.false) (sym (c.is_timer_not_set.ensures s h (c.deadline_at-due.ensures s h tells)) ∙ c.if-is_timer_not_set.false) (sym (c.is_timer_other.ensures s h (c.deadline_at-due.ensures s h tells)) ∙ c.if-is_timer_other.false) (sym (c.is_timer_early.ensures s h tells (c.deadline_at-due.ensures s h tells)) ∙ c.if-is_timer_early.false) (sym (c.is_probe_owed.ensures s h tells) ∙ c.if-is_probe_owed.false) (sym (c.is_not_confirmed.ensures s h tells) ∙ c.if-is_not_confirmed.false) in
    let no_metrics : first_of (metric_tests s h e) ≡ None = search rules in
    let in_time : is_timer_late s h e ≡ false = sym (c.is_timer_late.ensures s h tells) ∙ c.if-is_timer_late.false in
    let missing : is_collapse_missing s h e ≡ true = sym (c.is_collapse_missing.ensures s h tells) ∙ c.if-is_collapse_missing.true in
    sym (none ∙ (first_behind (metric_tests s h e) late no_metrics ∙ ap₂ (λ (a b : Bool). first_of ((a, rule.TimerLate) ∷ (b, rule.CollapseMissing) ∷ [])) in_time missing))
