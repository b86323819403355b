-- Where no number is skipped up to an acknowledged one, packets and numbers count alike: the runs, what the machine holds and which rules are broken are the same.
use Rattle.std.proofs.Common.{◌≡◌, ◌∙◌, ◌≤◌, ◌<◌, ℕ, List, [], ◌∷◌, Bool, true, false, ◌&&◌, ◌||◌, not, Option, Some, None, refl, sym, ap, ap₂, Contains, map}
use Rattle.std.proofs.Common.{arith, inl, inr, subst}
use Rattle.std.proofs.lemmas.Bool.{eq-eqb, or_left, or_right}
use Rattle.std.specs.Prelude.{if◌then◌else◌, nat_eq}
use Rattle.qa_base.specs.declared.event.Event.{Event}
use Rattle.qa_base.specs.declared.rule.Rule.{Rule}
use Rattle.qa_base.specs.declared.rule.Rule.TheVariants.{TimerEarly}
use Rattle.qa_base.specs.declared.space.Space.{Space}
use Rattle.qa_base.specs.declared.space.ThresholdCounts.TheVariants.{Numbers, Packets}
use Rattle.qa_base.specs.machine.Breaches.{numbers}
use Rattle.qa_base.specs.machine.Detection.{detection_by, is_at, is_found, is_free_by, is_left, is_owed_by, is_past_threshold, is_unsettled, may_be_spared}
use Rattle.qa_base.specs.machine.Estimates.{rtt, sampled}
use Rattle.qa_base.specs.machine.Kept.{numbers_of}
use Rattle.qa_base.specs.machine.Loss.{is_free, is_nameable, is_owed, nameable, owed}
use Rattle.qa_base.specs.machine.Numbers.{is_in}
use Rattle.qa_base.specs.machine.Packets.{Packet, packets, packets_of, is_acknowledged, is_declared_lost, is_of, largest_acknowledged}
use Rattle.qa_base.specs.machine.Rtt.{Estimate}
use Rattle.qa_base.specs.machine.Rules.{broken, first_broken, first_of, IsRun}
use Rattle.qa_base.specs.machine.State.{totals}
use Rattle.qa_base.specs.machine.Timer.{deadline}
use Rattle.qa_base.specs.machine.Violations.{first_untolerated, is_tolerated, is_untolerated, IsToleratedRun, rules_of, violations}
use Rattle.qa_base.specs.values.Events.{declares_lost}
use Rattle.qa_base.specs.values.Settings.{Settings}
use Rattle.qa_base.proofs.history.Pairs.{first_or_rest, of_each, part_has, same_part}
use Rattle.qa_base.proofs.history.ToleratedRuns.{is_space_is}
use Rattle.qa_base.proofs.machine.RunLaws.{tolerated_run_of}
use Rattle.qa_laws.specs.machine.Alike.{counting}
use Rattle.qa_laws.specs.machine.Fates.{fate, fate_by}
use Rattle.qa_laws.specs.machine.Skipped.{SkipsNone}
use Rattle.qa_laws.proofs.machine.Alike.{Agree, Tolerances, detects_at, detects_if_equally_early, same_deadline, same_is_owed, same_owed, same_rtt, same_sampled, same_totals}
use Rattle.qa_laws.proofs.machine.PacketCounts.{past_alike_in, spared_alike_in}
use Rattle.qa_laws.proofs.machine.SameVersion.{same_tests_by, varied}
use Rattle.qa_laws.proofs.machine.Skipped.{skips_none_before}

-- by what the settings that count packets differ from those that count numbers
abbrev by_packets : Settings → Tolerances
by_packets c = varied (counting c Numbers) c.version c.options.loss_by_number Packets

-- ---- what is found and what is left

has_number : (ps : List Packet) (p : Packet) → Contains ps p → is_in (numbers ps) p.number ≡ true
has_number [] p (k, within, is) = absurd (omega (arith, within))
has_number (q ∷ ps) p has = elim (first_or_rest q p ps has) [
  | inl here ↦ or_left (nat_eq q.number p.number) (is_in (numbers ps) p.number) (eq-eqb q.number p.number (ap (λ (x : Packet). x.number) here))
  | inr behind ↦ or_right (nat_eq q.number p.number) (is_in (numbers ps) p.number) (has_number ps p behind)
]

numbers_above : (h : List Event) → SkipsNone h → (s : Space) (p : Packet) → Contains (packets h) p → is_of s p ≡ true → (largest : ℕ) → largest_acknowledged h s ≡ Some largest
    → (n : ℕ) → p.number < n → n ≤ largest → is_in (numbers_of h p.space) n ≡ true
numbers_above h skips s p has of_s largest is n above le =
    subst (λ t. is_in (numbers_of h t) n ≡ true) (is_space_is s p.space of_s)
    (skips s p.number largest n (has_number (packets_of h s) p (part_has (is_of s) (packets h) p has of_s)) is above le)

past_at : (c d : Settings) (h : List Event) → IsToleratedRun d h → SkipsNone h → (r : Estimate) (s : Space) (now : ℕ) (p : Packet) → Contains (packets h) p → is_of s p ≡ true
    → (most : Option ℕ) → largest_acknowledged h s ≡ most → is_past_threshold (counting c Packets) r h now most p ≡ is_past_threshold (counting c Numbers) r h now most p
past_at c d h run skips r s now p has of_s None is = refl
past_at c d h run skips r s now p has of_s (Some largest) is = past_alike_in c d h run r now largest p (numbers_above h skips s p has of_s largest is)

spared_at : (c d : Settings) (h : List Event) → IsToleratedRun d h → SkipsNone h → (r : Estimate) (s : Space) (now : ℕ) (p : Packet) → Contains (packets h) p → is_of s p ≡ true
    → (most : Option ℕ) → largest_acknowledged h s ≡ most → may_be_spared (counting c Packets) r h now most p ≡ may_be_spared (counting c Numbers) r h now most p
spared_at c d h run skips r s now p has of_s None is = refl
spared_at c d h run skips r s now p has of_s (Some largest) is = spared_alike_in c d h run r now largest p (numbers_above h skips s p has of_s largest is)

and_alike : (a x y : Bool) → (a ≡ true → x ≡ y) → (a && x) ≡ (a && y)
and_alike true x y same = same refl
and_alike false x y same = refl

found_at : (c d : Settings) (h : List Event) → IsToleratedRun d h → SkipsNone h → (r : Estimate) (p : Packet) → Contains (packets h) p → (place : Option (Space × ℕ))
    → is_at (is_found (counting c Packets) r h) p place ≡ is_at (is_found (counting c Numbers) r h) p place
found_at c d h run skips r p has None = refl
found_at c d h run skips r p has (Some (s, now)) =
    and_alike (is_of s p) (is_found (counting c Packets) r h now s p) (is_found (counting c Numbers) r h now s p)
    (λ of_s. ap (λ b. p.in_flight && is_unsettled h p && b) (past_at c d h run skips r s now p has of_s (largest_acknowledged h s) refl))

left_at : (c d : Settings) (h : List Event) → IsToleratedRun d h → SkipsNone h → (r : Estimate) (p : Packet) → Contains (packets h) p → (place : Option (Space × ℕ))
    → is_at (is_left (counting c Packets) r h) p place ≡ is_at (is_left (counting c Numbers) r h) p place
left_at c d h run skips r p has None = refl
left_at c d h run skips r p has (Some (s, now)) =
    and_alike (is_of s p) (is_left (counting c Packets) r h now s p) (is_left (counting c Numbers) r h now s p)
    (λ of_s. ap (λ b. p.in_flight && is_unsettled h p && b) (spared_at c d h run skips r s now p has of_s (largest_acknowledged h s) refl))

same_place : (c : Settings) (h : List Event) → detection_by (counting c Packets) (sampled (counting c Numbers) h) h ≡ detection_by (counting c Numbers) (sampled (counting c Numbers) h) h
same_place c h = detects_at (counting c Numbers) (by_packets c) h (detects_if_equally_early (counting c Numbers) (by_packets c) h refl)

owes_alike : (c d : Settings) (h : List Event) → IsToleratedRun d h → SkipsNone h → (p : Packet) → Contains (packets h) p
    → is_owed_by (counting c Packets) (sampled (counting c Numbers) h) h p ≡ is_owed (counting c Numbers) h p
owes_alike c d h run skips p has =
    let r = sampled (counting c Numbers) h in
    ap (is_at (is_found (counting c Packets) r h) p) (same_place c h) ∙ found_at c d h run skips r p has (detection_by (counting c Numbers) r h)

frees_alike : (c d : Settings) (h : List Event) → IsToleratedRun d h → SkipsNone h → (p : Packet) → Contains (packets h) p
    → is_free_by (counting c Packets) (sampled (counting c Numbers) h) h p ≡ is_free (counting c Numbers) h p
frees_alike c d h run skips p has =
    let r = sampled (counting c Numbers) h in
    ap (is_at (is_left (counting c Packets) r h) p) (same_place c h) ∙ left_at c d h run skips r p has (detection_by (counting c Numbers) r h)

-- ---- so both agree at each event; d are the settings by which the history is a tolerated run

agree : (c d : Settings) (h : List Event) → IsToleratedRun d h → SkipsNone h → Agree (counting c Numbers) (by_packets c) h
agree c d [] run skips = tt
agree c d (e ∷ h) run skips =
    let before = skips_none_before d e h run skips in (
      agree c d h run.0 before,
      record {
        owes = λ p has. owes_alike c d (e ∷ h) run skips p has;
        names = λ p has. ap (λ b. b && declares_lost p.space p.number e) (frees_alike c d h run.0 before p has);
      },
    )

is_free_same : (c d : Settings) (h : List Event) → IsToleratedRun d h → SkipsNone h → (p : Packet) → Contains (packets h) p → is_free (counting c Packets) h p ≡ is_free (counting c Numbers) h p
is_free_same c d h run skips p has =
    ap (λ r. is_free_by (counting c Packets) r h p) (same_sampled (counting c Numbers) (by_packets c) h (agree c d h run skips)) ∙ frees_alike c d h run skips p has

is_owed_same : (c d : Settings) (h : List Event) → IsToleratedRun d h → SkipsNone h → (p : Packet) → Contains (packets h) p → is_owed (counting c Packets) h p ≡ is_owed (counting c Numbers) h p
is_owed_same c d h run skips p has = same_is_owed (counting c Numbers) (by_packets c) h (agree c d h run skips) p has

nameable_same : (c d : Settings) (h : List Event) → IsToleratedRun d h → SkipsNone h → nameable (counting c Packets) h ≡ nameable (counting c Numbers) h
nameable_same c d h run skips =
    let some = is_nameable (counting c Packets) h in
    let others = is_nameable (counting c Numbers) h in
    same_part some others (packets h) (of_each (λ p. some p ≡ others p) (packets h)
    (λ p has. ap₂ (λ a b. a || b) (is_owed_same c d h run skips p has) (is_free_same c d h run skips p has)))

-- ---- the rules

tests_same : (c d : Settings) (h : List Event) → IsToleratedRun d h → SkipsNone h → (e : Event) → broken (counting c Packets) h e ≡ broken (counting c Numbers) h e
tests_same c d h run skips e = same_tests_by (counting c Numbers) c.version c.options.loss_by_number Packets h (agree c d h run skips) (nameable_same c d h run skips) e

first_same : (c d : Settings) (h : List Event) → IsToleratedRun d h → SkipsNone h → (e : Event) → first_broken (counting c Packets) h e ≡ first_broken (counting c Numbers) h e
unfolding first_broken
first_same c d h run skips e = ap first_of (tests_same c d h run skips e)

violations_same : (c d : Settings) (h : List Event) → IsToleratedRun d h → SkipsNone h → (e : Event) → violations (counting c Packets) h e ≡ violations (counting c Numbers) h e
unfolding violations
violations_same c d h run skips e = ap rules_of (tests_same c d h run skips e)

tolerated_same : (c : Settings) (h : List Event) (r : Rule) → is_tolerated (counting c Packets) h r ≡ is_tolerated (counting c Numbers) h r
tolerated_same c h TimerEarly = refl
tolerated_same c h r = refl

-- of the same tests
untolerated_of : (c : Settings) (h : List Event) (tests : List (Bool × Rule))
    → first_of (map (λ test. (is_untolerated (counting c Packets) h test, test.1)) tests) ≡ first_of (map (λ test. (is_untolerated (counting c Numbers) h test, test.1)) tests)
untolerated_of c h [] = refl
untolerated_of c h (test ∷ tests) =
    ap₂ (λ tolerated rest. if test.0 && not tolerated then Some test.1 else rest) (tolerated_same c h test.1) (untolerated_of c h tests)

untolerated_same : (c d : Settings) (h : List Event) → IsToleratedRun d h → SkipsNone h → (e : Event) → first_untolerated (counting c Packets) h e ≡ first_untolerated (counting c Numbers) h e
unfolding first_untolerated
untolerated_same c d h run skips e =
    ap (λ tests. first_of (map (λ test. (is_untolerated (counting c Packets) h test, test.1)) tests)) (tests_same c d h run skips e) ∙ untolerated_of c h (broken (counting c Numbers) h e)

-- ---- runs

pub runs_by_packets : (c : Settings) (h : List Event) → SkipsNone h → IsRun (counting c Numbers) h → IsRun (counting c Packets) h
runs_by_packets c [] skips run = tt
runs_by_packets c (e ∷ h) skips run =
    let all = tolerated_run_of (counting c Numbers) (e ∷ h) run in
    let before = skips_none_before (counting c Numbers) e h all skips in
    (runs_by_packets c h before run.0, first_same c (counting c Numbers) h all.0 before e ∙ run.1)

pub runs_by_numbers : (c : Settings) (h : List Event) → SkipsNone h → IsRun (counting c Packets) h → IsRun (counting c Numbers) h
runs_by_numbers c [] skips run = tt
runs_by_numbers c (e ∷ h) skips run =
    let all = tolerated_run_of (counting c Packets) (e ∷ h) run in
    let before = skips_none_before (counting c Packets) e h all skips in
    (runs_by_numbers c h before run.0, sym (first_same c (counting c Packets) h all.0 before e) ∙ run.1)

pub goes_on_by_packets : (c : Settings) (h : List Event) → SkipsNone h → IsToleratedRun (counting c Numbers) h → IsToleratedRun (counting c Packets) h
goes_on_by_packets c [] skips run = tt
goes_on_by_packets c (e ∷ h) skips run =
    let before = skips_none_before (counting c Numbers) e h run skips in
    (goes_on_by_packets c h before run.0, untolerated_same c (counting c Numbers) h run.0 before e ∙ run.1)

pub goes_on_by_numbers : (c : Settings) (h : List Event) → SkipsNone h → IsToleratedRun (counting c Packets) h → IsToleratedRun (counting c Numbers) h
goes_on_by_numbers c [] skips run = tt
goes_on_by_numbers c (e ∷ h) skips run =
    let before = skips_none_before (counting c Packets) e h run skips in
    (goes_on_by_numbers c h before run.0, sym (untolerated_same c (counting c Packets) h run.0 before e) ∙ run.1)

-- ---- what stands after a tolerated run

pub totals_by_counts : (c : Settings) (h : List Event) → SkipsNone h → IsToleratedRun (counting c Numbers) h → totals (counting c Packets) h ≡ totals (counting c Numbers) h
totals_by_counts c h skips run = same_totals (counting c Numbers) (by_packets c) h (agree c (counting c Numbers) h run skips)

pub rtt_by_counts : (c : Settings) (h : List Event) → SkipsNone h → IsToleratedRun (counting c Numbers) h → rtt (counting c Packets) h ≡ rtt (counting c Numbers) h
rtt_by_counts c h skips run = same_rtt (counting c Numbers) (by_packets c) h (agree c (counting c Numbers) h run skips)

pub owed_by_counts : (c : Settings) (h : List Event) → SkipsNone h → IsToleratedRun (counting c Numbers) h → owed (counting c Packets) h ≡ owed (counting c Numbers) h
owed_by_counts c h skips run = same_owed (counting c Numbers) (by_packets c) h (agree c (counting c Numbers) h run skips)

pub nameable_by_counts : (c : Settings) (h : List Event) → SkipsNone h → IsToleratedRun (counting c Numbers) h → nameable (counting c Packets) h ≡ nameable (counting c Numbers) h
nameable_by_counts c h skips run = nameable_same c (counting c Numbers) h run skips

pub fate_by_counts : (c : Settings) (h : List Event) → SkipsNone h → IsToleratedRun (counting c Numbers) h → (p : Packet) → Contains (packets h) p → fate (counting c Packets) h p ≡ fate (counting c Numbers) h p
fate_by_counts c h skips run p has = ap (fate_by (is_acknowledged h p) (is_declared_lost h p)) (is_owed_same c (counting c Numbers) h run skips p has)

pub deadline_by_counts : (c : Settings) (h : List Event) → SkipsNone h → IsToleratedRun (counting c Numbers) h → deadline (counting c Packets) h ≡ deadline (counting c Numbers) h
deadline_by_counts c h skips run = same_deadline (counting c Numbers) (by_packets c) h (agree c (counting c Numbers) h run skips)

pub first_by_counts : (c : Settings) (h : List Event) → SkipsNone h → IsToleratedRun (counting c Numbers) h → (e : Event) → first_broken (counting c Packets) h e ≡ first_broken (counting c Numbers) h e
first_by_counts c h skips run e = first_same c (counting c Numbers) h run skips e

pub violations_by_counts : (c : Settings) (h : List Event) → SkipsNone h → IsToleratedRun (counting c Numbers) h → (e : Event) → violations (counting c Packets) h e ≡ violations (counting c Numbers) h e
violations_by_counts c h skips run e = violations_same c (counting c Numbers) h run skips e
