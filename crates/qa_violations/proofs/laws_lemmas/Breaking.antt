-- The first of the rules that tests name, and past which of them the machine goes on.
use Rattle.std.proofs.Common.{◌≡◌, ◌∙◌, Bool, true, false, ◌&&◌, not, List, [], ◌∷◌, ◌++◌, Option, Some, None, refl, sym, subst, ap}
use Rattle.std.specs.Prelude.{if◌then◌else◌, map, nat_lt}
use Rattle.qa_base.specs.declared.event.Event.{Event}
use Rattle.qa_base.specs.declared.event.Event.TheVariants.{Ack, Timer, Discard}
use Rattle.qa_base.specs.declared.rule.Rule.{Rule}
use Rattle.qa_base.specs.declared.rule.Rule.TheVariants as rule
use Rattle.qa_base.specs.machine.Breaches.{is_time_back, is_loss_owed, is_loss_not_owed, is_other_loss_set, is_space_gone, is_number_not_higher, is_past_window, is_past_probe, is_past_recovery, is_ack_unsent, is_timer_not_set, is_timer_other, is_timer_early, is_probe_owed, is_not_confirmed}
use Rattle.qa_base.specs.machine.Metrics.{metric_tests}
use Rattle.qa_base.specs.machine.Rules.{broken, first_broken, first_of}
use Rattle.qa_base.specs.machine.Timer.{pto_count}
use Rattle.qa_base.specs.machine.Violations.{violations, rules_of, first_untolerated, is_tolerated, is_untolerated, most_doublings}
use Rattle.qa_base.specs.values.Settings.{Settings}
use Rattle.qa_ledger.proofs.Parts.{first_in_parts}
use Rattle.qa_ledger.specs.Tests.{all_of_lateness, tests_of_answers, tests_of_packets}

none_of : (tests : List (Bool × Rule)) → first_of tests ≡ None → rules_of tests ≡ []
none_of [] none = refl
none_of ((true, r) ∷ tests) none = cc
none_of ((false, r) ∷ tests) none = none_of tests none

begins : (tests : List (Bool × Rule)) (r : Rule) → first_of tests ≡ Some r → (rs : List Rule) × (rules_of tests ≡ r ∷ rs)
begins [] r first = absurd cc
begins ((true, s) ∷ tests) r first = (rules_of tests, cc)
begins ((false, s) ∷ tests) r first = begins tests r first

pub no_violations : (c : Settings) (h : List Event) (e : Event) → first_broken c h e ≡ None → violations c h e ≡ []
unfolding first_broken violations
no_violations c h e none = none_of (broken c h e) none

pub first_violation : (c : Settings) (h : List Event) (e : Event) (r : Rule) → first_broken c h e ≡ Some r → (rs : List Rule) × (violations c h e ≡ r ∷ rs)
unfolding first_broken violations
first_violation c h e r first = begins (broken c h e) r first

-- ---- past which rules the machine goes on

-- the tests behind V6
abbrev behind_packets : Settings → List Event → Event → List (Bool × Rule)
behind_packets c h e =
    (is_past_window c h e, rule.PastWindow)
    ∷ (is_past_probe c h e, rule.PastProbe)
    ∷ (is_past_recovery c h e, rule.PastRecovery)
    ∷ (is_ack_unsent h e, rule.AckUnsent)
    ∷ (is_timer_not_set c h e, rule.TimerNotSet)
    ∷ (is_timer_other c h e, rule.TimerOther)
    ∷ (is_timer_early c h e, rule.TimerEarly)
    ∷ (is_probe_owed h e, rule.ProbeOwed)
    ∷ (is_not_confirmed h e, rule.NotConfirmed)
    ∷ (metric_tests c h e ++ all_of_lateness c h e)

-- a test of a rule past which the machine does not go on fails, where the first that is broken is one past which it does
not_first : (c : Settings) (h : List Event) (b : Bool) (s r : Rule) (rest : Option Rule) → is_tolerated c h s ≡ false → is_tolerated c h r ≡ true
    → (if b then Some s else rest) ≡ Some r → (b ≡ false) × (rest ≡ Some r)
not_first c h true s r rest ends passed first =
    let same : s ≡ r = cc in
    absurd (let passes : is_tolerated c h s ≡ true = rw same passed in cc)
not_first c h false s r rest ends passed first = (refl, first)

none_of_packets : (c : Settings) (h : List Event) (e : Event) (r : Rule) (tests : List (Bool × Rule)) → is_tolerated c h r ≡ true
    → first_of (tests_of_packets c h e ++ tests) ≡ Some r → (first_of (tests_of_packets c h e) ≡ None) × (first_of tests ≡ Some r)
none_of_packets c h e r tests passed first =
    let v1 = not_first c h (is_time_back h e) rule.TimeBack r _ refl passed first in
    let v2 = not_first c h (is_loss_owed c h e) rule.LossOwed r _ refl passed v1.1 in
    let v3 = not_first c h (is_loss_not_owed c h e) rule.LossNotOwed r _ refl passed v2.1 in
    let v4 = not_first c h (is_other_loss_set c h e) rule.LossSet r _ refl passed v3.1 in
    let v5 = not_first c h (is_space_gone h e) rule.SpaceGone r _ refl passed v4.1 in
    let v6 = not_first c h (is_number_not_higher h e) rule.NumberNotHigher r _ refl passed v5.1 in
    (rw (v1.0, v2.0, v3.0, v4.0, v5.0, v6.0) refl, v6.1)

-- V13 is not one past which the machine does not go on
timer_passed : (c : Settings) (h : List Event) (b : Bool) (r : Rule) (rest : Option Rule) → is_tolerated c h r ≡ true
    → (if b then Some rule.TimerEarly else rest) ≡ Some r → (b && not (nat_lt (pto_count c h) most_doublings)) ≡ false
timer_passed c h true r rest passed first =
    let same : rule.TimerEarly ≡ r = cc in
    let few : nat_lt (pto_count c h) most_doublings ≡ true = subst (λ (s : Rule). is_tolerated c h s ≡ true) (sym same) passed in
    rw few refl
timer_passed c h false r rest passed first = refl

none_of_answers : (c : Settings) (h : List Event) (e : Event) (r : Rule) → is_tolerated c h r ≡ true → first_of (behind_packets c h e) ≡ Some r → first_of (tests_of_answers c h e) ≡ None
none_of_answers c h (Ack ack) r passed first =
    let v10 = not_first c h (is_ack_unsent h (Ack ack)) rule.AckUnsent r _ refl passed first in
    rw v10.0 refl
none_of_answers c h (Timer time kind space) r passed first =
    let e = Timer time kind space in
    let v11 = not_first c h (is_timer_not_set c h e) rule.TimerNotSet r _ refl passed first in
    let v12 = not_first c h (is_timer_other c h e) rule.TimerOther r _ refl passed v11.1 in
    rw (v11.0, v12.0, timer_passed c h (is_timer_early c h e) r _ passed v12.1) refl
none_of_answers c h (Discard time space) r passed first =
    let v15 = not_first c h (is_not_confirmed h (Discard time space)) rule.NotConfirmed r _ refl passed first in
    rw v15.0 refl
none_of_answers c h e r passed first = refl

-- the machine goes on past an event, where it does past the first rule that the event breaks
pub passed_over : (c : Settings) (h : List Event) (e : Event) (r : Rule) → first_broken c h e ≡ Some r → is_tolerated c h r ≡ true → first_untolerated c h e ≡ None
unfolding first_broken
passed_over c h e r first passed =
    let packets = none_of_packets c h e r (behind_packets c h e) passed first in
    first_in_parts c h e ∙ (rw packets.0 (none_of_answers c h e r passed packets.1))

ends_at : (c : Settings) (h : List Event) (tests : List (Bool × Rule)) (r : Rule) → first_of tests ≡ Some r → is_tolerated c h r ≡ false
    → first_of (map (λ test. (is_untolerated c h test, test.1)) tests) ≡ Some r
ends_at c h [] r first ends = absurd cc
ends_at c h ((true, s) ∷ tests) r first ends =
    let same : s ≡ r = cc in
    let stops : is_tolerated c h s ≡ false = rw same ends in
    rw stops (ap Some same)
ends_at c h ((false, s) ∷ tests) r first ends = ends_at c h tests r first ends

-- it does not go on past an event, where it does not past the first rule that the event breaks
pub not_passed_over : (c : Settings) (h : List Event) (e : Event) (r : Rule) → first_broken c h e ≡ Some r → is_tolerated c h r ≡ false → first_untolerated c h e ≡ Some r
unfolding first_broken first_untolerated
not_passed_over c h e r first ends = ends_at c h (broken c h e) r first ends
