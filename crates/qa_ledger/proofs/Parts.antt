-- Of the rules past which the machine does not go on, the first that is broken; and of all rules, those that are.
use Rattle.std.proofs.Common.{◌≡◌, ◌∙◌, ◌<◌, ◌+◌, ℕ, List, [], ◌∷◌, ◌++◌, Bool, true, false, ◌&&◌, not, None, Some, Option, length, take, get_or, refl, sym, ap, append_assoc, append-nil}
use Rattle.std.proofs.lemmas.List.{take_more}
use Rattle.std.specs.Prelude.{if◌then◌else◌, map, nat_lt}
use Rattle.std.specs.Option.{option_or}
use Rattle.qa_base.specs.declared.event.Event.{Event}
use Rattle.qa_base.specs.declared.event.Event.TheVariants.{Metrics}
use Rattle.qa_base.specs.declared.rule.Field.{Field}
use Rattle.qa_base.specs.declared.rule.Rule.{Rule}
use Rattle.qa_base.specs.declared.rule.Rule.TheVariants as rule
use Rattle.qa_base.specs.machine.Breaches.{is_time_back, is_loss_owed, is_loss_not_owed, is_other_loss_set, is_space_gone, is_number_not_higher, is_past_window, is_past_probe, is_past_recovery, is_ack_unsent, is_timer_not_set, is_timer_other, is_timer_early, is_probe_owed, is_not_confirmed, is_timer_late, is_collapse_missing}
use Rattle.qa_base.specs.machine.Violations.{violations, first_untolerated, is_untolerated, most_doublings, rules_of}
use Rattle.qa_base.specs.machine.Metrics.{differences, metric_tests}
use Rattle.qa_base.specs.machine.Rules.{first_of}
use Rattle.qa_base.specs.machine.State.{totals}
use Rattle.qa_base.specs.machine.Timer.{pto_count}
use Rattle.qa_base.specs.values.Settings.{Settings}
use Rattle.qa_ledger.specs.Tests.{tests_of_packets, tests_of_answers, all_of_packets, all_of_answers, all_of_lateness}
use Rattle.qa_ledger.proofs.Firsts.{first_of_both}

and_true : (b : Bool) → (b && true) ≡ b
and_true true = refl
and_true false = refl

and_false : (b : Bool) → (b && false) ≡ false
and_false true = refl
and_false false = refl

-- ---- reported values are tolerated

passed : (b : Bool) (r : Rule) (rest : Option Rule) → (if b && false then Some r else rest) ≡ rest
passed true r rest = refl
passed false r rest = refl

-- the tests of which the machine does not go on, of some
abbrev untolerated_of : Settings → List Event → List (Bool × Rule) → List (Bool × Rule)
untolerated_of c h tests = map (λ test. (is_untolerated c h test, test.1)) tests

tolerated_fields : (c : Settings) (h : List Event) (fields : List (Bool × Field)) (others : List (Bool × Rule))
    → first_of (untolerated_of c h (map (λ test. (test.0, rule.Metric test.1)) fields ++ others)) ≡ first_of (untolerated_of c h others)
tolerated_fields c h [] others = refl
tolerated_fields c h (test ∷ fields) others =
    passed test.0 (rule.Metric test.1) (first_of (untolerated_of c h (map (λ test. (test.0, rule.Metric test.1)) fields ++ others))) ∙ tolerated_fields c h fields others

tolerated_report : (c : Settings) (h : List Event) (e : Event) (others : List (Bool × Rule)) → first_of (untolerated_of c h (metric_tests c h e ++ others)) ≡ first_of (untolerated_of c h others)
tolerated_report c h (Metrics time values) others = tolerated_fields c h (differences c values (totals c h)) others
tolerated_report c h _ others = refl

-- none of those behind V15
none_behind : (c : Settings) (h : List Event) (e : Event) → first_of (untolerated_of c h (metric_tests c h e ++ all_of_lateness c h e)) ≡ None
none_behind c h e =
    tolerated_report c h e (all_of_lateness c h e)
    ∙ (passed (is_timer_late c h e) rule.TimerLate _ ∙ passed (is_collapse_missing c h e) rule.CollapseMissing None)

-- ---- the others

first_of_form : (b1 b2 b3 b4 b5 b6 b7 b8 b9 b10 b11 b12 b13 b14 b15 : Bool) (tests : List (Bool × Rule)) → first_of tests ≡ None
    → first_of ((b1 && true, rule.TimeBack) ∷ (b2 && true, rule.LossOwed) ∷ (b3 && true, rule.LossNotOwed) ∷ (b4 && true, rule.LossSet) ∷ (b5 && true, rule.SpaceGone) ∷ (b6 && true, rule.NumberNotHigher) ∷ (b7 && false, rule.PastWindow) ∷ (b8 && false, rule.PastProbe) ∷ (b9 && false, rule.PastRecovery) ∷ (b10 && true, rule.AckUnsent) ∷ (b11 && true, rule.TimerNotSet) ∷ (b12 && true, rule.TimerOther) ∷ (b13, rule.TimerEarly) ∷ (b14 && false, rule.ProbeOwed) ∷ (b15 && true, rule.NotConfirmed) ∷ tests)
    ≡ first_of ((b1, rule.TimeBack) ∷ (b2, rule.LossOwed) ∷ (b3, rule.LossNotOwed) ∷ (b4, rule.LossSet) ∷ (b5, rule.SpaceGone) ∷ (b6, rule.NumberNotHigher) ∷ (b10, rule.AckUnsent) ∷ (b11, rule.TimerNotSet) ∷ (b12, rule.TimerOther) ∷ (b13, rule.TimerEarly) ∷ (b15, rule.NotConfirmed) ∷ [])
first_of_form b1 b2 b3 b4 b5 b6 b7 b8 b9 b10 b11 b12 b13 b14 b15 tests none =
    rw (and_true b1, and_true b2, and_true b3, and_true b4, and_true b5, and_true b6, and_false b7, and_false b8, and_false b9, and_true b10, and_true b11, and_true b12, and_false b14, and_true b15, none) refl

-- the first rule past which the machine does not go on, by the two parts in which it is looked for
pub first_in_parts : (c : Settings) (h : List Event) (e : Event) → first_untolerated c h e ≡ option_or (first_of (tests_of_packets c h e)) (first_of (tests_of_answers c h e))
unfolding first_untolerated
first_in_parts c h e =
    first_of_form (is_time_back h e) (is_loss_owed c h e) (is_loss_not_owed c h e) (is_other_loss_set c h e) (is_space_gone h e) (is_number_not_higher h e)
    (is_past_window c h e) (is_past_probe c h e) (is_past_recovery c h e) (is_ack_unsent h e) (is_timer_not_set c h e) (is_timer_other c h e)
    (is_timer_early c h e && not (nat_lt (pto_count c h) most_doublings)) (is_probe_owed h e) (is_not_confirmed h e)
    (untolerated_of c h (metric_tests c h e ++ all_of_lateness c h e)) (none_behind c h e)
    ∙ first_of_both (tests_of_packets c h e) (tests_of_answers c h e)

-- ---- all rules that are broken

one_more : (b : Bool) (r : Rule) (tests others : List (Bool × Rule)) → rules_of (tests ++ others) ≡ rules_of tests ++ rules_of others
    → rules_of ((b, r) ∷ (tests ++ others)) ≡ rules_of ((b, r) ∷ tests) ++ rules_of others
one_more true r tests others rest = ap (λ (rs : List Rule). r ∷ rs) rest
one_more false r tests others rest = rest

pub rules_of_both : (tests others : List (Bool × Rule)) → rules_of (tests ++ others) ≡ rules_of tests ++ rules_of others
rules_of_both [] others = refl
rules_of_both (test ∷ tests) others = one_more test.0 test.1 tests others (rules_of_both tests others)

-- one more test
rules_more : (tests : List (Bool × Rule)) (i : ℕ) (d : Bool × Rule) → i < length tests → rules_of (take (i + 1) tests) ≡ rules_of (take i tests) ++ rules_of (get_or tests i d ∷ [])
rules_more tests i d within = ap rules_of (take_more tests i d within) ∙ rules_of_both (take i tests) (get_or tests i d ∷ [])

so_alone : (test : Bool × Rule) → test.0 ≡ true → rules_of (test ∷ []) ≡ test.1 ∷ []
so_alone test so = rw so refl

not_alone : (test : Bool × Rule) → test.0 ≡ false → rules_of (test ∷ []) ≡ []
not_alone test not_so = rw not_so refl

-- it is so, and its rule is found behind the others
pub rules_with : (tests : List (Bool × Rule)) (i : ℕ) (d : Bool × Rule) (first before now : List Rule) → i < length tests → (get_or tests i d).0 ≡ true
    → before ≡ first ++ rules_of (take i tests) → now ≡ before ++ (get_or tests i d).1 ∷ [] → now ≡ first ++ rules_of (take (i + 1) tests)
rules_with tests i d first before now within so known found =
    rw (rules_more tests i d within, so_alone (get_or tests i d) so, found, known) (append_assoc first (rules_of (take i tests)) ((get_or tests i d).1 ∷ []))

-- it is not
pub rules_without : (tests : List (Bool × Rule)) (i : ℕ) (d : Bool × Rule) (first now : List Rule) → i < length tests → (get_or tests i d).0 ≡ false
    → now ≡ first ++ rules_of (take i tests) → now ≡ first ++ rules_of (take (i + 1) tests)
rules_without tests i d first now within not_so known =
    rw (rules_more tests i d within, not_alone (get_or tests i d) not_so, append-nil (rules_of (take i tests))) known

-- by the four parts in which they are looked for
pub violations_in_parts : (c : Settings) (h : List Event) (e : Event)
    → violations c h e ≡ ((rules_of (all_of_packets c h e) ++ rules_of (all_of_answers c h e)) ++ rules_of (metric_tests c h e)) ++ rules_of (all_of_lateness c h e)
unfolding violations
violations_in_parts c h e =
    let packets = all_of_packets c h e in
    let answers = all_of_answers c h e in
    let reports = metric_tests c h e in
    let late = all_of_lateness c h e in
    rules_of_both packets (answers ++ (reports ++ late))
    ∙ (ap (λ rs. rules_of packets ++ rs) (rules_of_both answers (reports ++ late)
    ∙ ap (λ rs. rules_of answers ++ rs) (rules_of_both reports late))
    ∙ (sym (append_assoc (rules_of packets) (rules_of answers) (rules_of reports ++ rules_of late))
    ∙ sym (append_assoc (rules_of packets ++ rules_of answers) (rules_of reports) (rules_of late))))

-- where each part is found behind those before it
pub found_in_parts : (c : Settings) (h : List Event) (e : Event) (r0 r1 r2 r3 r4 : List Rule) (packets answers late : List (Bool × Rule)) → r0 ≡ []
    → packets ≡ all_of_packets c h e → r1 ≡ r0 ++ rules_of packets → answers ≡ all_of_answers c h e → r2 ≡ r1 ++ rules_of answers
    → r3 ≡ r2 ++ rules_of (metric_tests c h e) → late ≡ all_of_lateness c h e → r4 ≡ r3 ++ rules_of late → r4 ≡ violations c h e
found_in_parts c h e r0 r1 r2 r3 r4 packets answers late none p e1 a e2 e3 l e4 = rw (e4, e3, e2, e1, none, p, a, l) (sym (violations_in_parts c h e))
