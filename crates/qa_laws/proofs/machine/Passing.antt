-- The walk of a detection: it passes packets until the first that is asked of and not late.
use Rattle.std.proofs.Common.{◌≡◌, ◌∙◌, ℕ, List, [], ◌∷◌, ◌++◌, Bool, true, false, ◌&&◌, ◌||◌, not, Some, refl, sym, ap, subst, Contains, filter, reverse, take_while}
use Rattle.std.proofs.lemmas.Bool.{or_from, both_ways}
use Rattle.std.proofs.lemmas.List.Sums.{take_while-cons}
use Rattle.std.specs.List.{AllByRecursion}
use Rattle.std.specs.Prelude.{if◌then◌else◌}
use Rattle.qa_base.specs.declared.event.Event.{Event}
use Rattle.qa_base.specs.declared.space.Space.{Space}
use Rattle.qa_base.specs.machine.Estimates.{sampled}
use Rattle.qa_base.specs.machine.Detection.{is_past_threshold}
use Rattle.qa_base.specs.machine.Loss.{owed, is_owed, is_open, detection}
use Rattle.qa_base.specs.history.Declared.{is_named_free}
use Rattle.qa_base.specs.history.Oldest.{is_flying, is_asked, is_passed, NoneFlies}
use Rattle.qa_base.specs.machine.Packets.{Packet, packets, is_of, is_newly_acknowledged, largest_acknowledged}
use Rattle.qa_base.specs.machine.Rules.{IsRun}
use Rattle.qa_base.specs.values.Settings.{Settings}
use Rattle.qa_base.specs.history.Sums.{is_discarded_by}
use Rattle.qa_base.proofs.history.Closing.{closes_is}
use Rattle.qa_laws.proofs.machine.FateLaws.{none_flies_stays}
use Rattle.qa_base.proofs.history.Pairs.{at_one, of_each}
use Rattle.qa_base.proofs.history.Settled.{open_before}
use Rattle.qa_base.proofs.history.Walks.{owed_of_rest, flies_after}
use Rattle.qa_base.proofs.machine.WindowBound.{each_append}
use Rattle.qa_base.proofs.machine.RunLaws.{tolerated_run_of}

-- ---- one walk in the place of two

late_of_asked : (asks late : Packet → Bool) (p : Packet) (ps : List Packet) (a l : Bool) → asks p ≡ a → late p ≡ l
    → take_while late (filter asks ps) ≡ filter asks (take_while (λ q. not (asks q) || late q) ps)
    → take_while late (if a then p ∷ filter asks ps else filter asks ps) ≡ filter asks (if not a || l then p ∷ take_while (λ q. not (asks q) || late q) ps else [])
late_of_asked asks late p ps true true is so rest = take_while-cons late p (filter asks ps) ∙ rw (so, is, rest) refl
late_of_asked asks late p ps true false is so rest = take_while-cons late p (filter asks ps) ∙ rw so refl
late_of_asked asks late p ps false l is so rest = rw (is, rest) refl

passed_is : (asks late : Packet → Bool) (ps : List Packet) → take_while late (filter asks ps) ≡ filter asks (take_while (λ q. not (asks q) || late q) ps)
passed_is asks late [] = refl
passed_is asks late (p ∷ ps) =
    late_of_asked asks late p ps (asks p) (late p) refl refl (passed_is asks late ps)
    ∙ ap (filter asks) (sym (take_while-cons (λ q. not (asks q) || late q) p ps))

-- in a run what a detection finds is whatever is asked of among the packets that its walk passes
pub owed_is_passed : (c : Settings) (e : Event) (h : List Event) → IsRun c (e ∷ h) → (s : Space) (now : ℕ) → detection c (e ∷ h) ≡ Some (s, now)
    → (front rest : List Packet) → reverse (packets h) ≡ front ++ rest → NoneFlies c h s front
    → reverse (owed c (e ∷ h)) ≡ filter (is_asked (e ∷ h) s) (take_while (is_passed (e ∷ h) s (is_past_threshold c (sampled c (e ∷ h)) (e ∷ h) now (largest_acknowledged (e ∷ h) s))) rest)
owed_is_passed c e h run s now at front rest parts none =
    owed_of_rest c e h (tolerated_run_of c (e ∷ h) run) s now at front rest parts none
    ∙ passed_is (is_asked (e ∷ h) s) (is_past_threshold c (sampled c (e ∷ h)) (e ∷ h) now (largest_acknowledged (e ∷ h) s)) rest

-- ---- the new front

each_front : (test : Packet → Bool) (p : Packet) (ps : List Packet) (b : Bool) → test p ≡ b → AllByRecursion (λ q. test q ≡ true) (take_while test ps)
    → AllByRecursion (λ q. test q ≡ true) (if b then p ∷ take_while test ps else [])
each_front test p ps true is rest = (is, rest)
each_front test p ps false is rest = tt

all_pass : (test : Packet → Bool) (ps : List Packet) → AllByRecursion (λ q. test q ≡ true) (take_while test ps)
all_pass test [] = tt
all_pass test (p ∷ ps) =
    subst (λ (qs : List Packet). AllByRecursion (λ q. test q ≡ true) qs) (sym (take_while-cons test p ps)) (each_front test p ps (test p) refl (all_pass test ps))

passed_by : (asks late : Bool) → (not asks || late) ≡ true → (asks && not late) ≡ false
passed_by true true is = refl
passed_by true false is = cc
passed_by false late is = refl

flies_not : (c : Settings) (e : Event) (h : List Event) → IsRun c (e ∷ h) → (s : Space) (now : ℕ) → detection c (e ∷ h) ≡ Some (s, now) → (p : Packet) (of_space : Bool) → is_of s p ≡ of_space
    → is_passed (e ∷ h) s (is_past_threshold c (sampled c (e ∷ h)) (e ∷ h) now (largest_acknowledged (e ∷ h) s)) p ≡ true → (of_space && is_flying c (e ∷ h) p) ≡ false
flies_not c e h run s now at p true of_s passed =
    flies_after c e h (tolerated_run_of c (e ∷ h) run) s now at p of_s ∙ passed_by (is_asked (e ∷ h) s p) (is_past_threshold c (sampled c (e ∷ h)) (e ∷ h) now (largest_acknowledged (e ∷ h) s) p) passed
flies_not c e h run s now at p false of_s passed = refl

-- in a run none of the packets up to where the walk stops is open and in flight after the event
pub none_flies_passed : (c : Settings) (e : Event) (h : List Event) → IsRun c (e ∷ h) → (s : Space) (now : ℕ) → detection c (e ∷ h) ≡ Some (s, now)
    → (front rest : List Packet) → reverse (packets h) ≡ front ++ rest → NoneFlies c h s front
    → NoneFlies c (e ∷ h) s (front ++ take_while (is_passed (e ∷ h) s (is_past_threshold c (sampled c (e ∷ h)) (e ∷ h) now (largest_acknowledged (e ∷ h) s))) rest)
none_flies_passed c e h run s now at front rest parts none =
    let test = is_passed (e ∷ h) s (is_past_threshold c (sampled c (e ∷ h)) (e ∷ h) now (largest_acknowledged (e ∷ h) s)) in
    each_append (λ p. (is_of s p && is_flying c (e ∷ h) p) ≡ false) front (take_while test rest)
    (none_flies_stays c e h run s front rest parts none)
    (of_each (λ p. (is_of s p && is_flying c (e ∷ h) p) ≡ false) (take_while test rest) (λ p has.
    flies_not c e h run s now at p (is_of s p) refl (at_one (λ q. test q ≡ true) (take_while test rest) p (all_pass test rest) has)))

-- ---- events that close nothing

open_if : (was now closed : Bool) → (was && not now) ≡ closed → closed ≡ false → (now ≡ true → was ≡ true) → now ≡ was
open_if true true closed is none before = refl
open_if true false closed is none before = absurd (both_ways closed none (sym is))
open_if false true closed is none before = let no = before refl in cc
open_if false false closed is none before = refl

-- in a run a packet is as open as it was that the event does not newly acknowledge, nor find lost, nor discard, nor name where it was free
pub stays_open : (c : Settings) (e : Event) (h : List Event) → IsRun c (e ∷ h) → (p : Packet) → Contains (packets h) p
    → is_newly_acknowledged e h p ≡ false → is_owed c (e ∷ h) p ≡ false → is_discarded_by c e h p ≡ false → is_named_free c e h p ≡ false
    → is_open c (e ∷ h) p ≡ is_open c h p
stays_open c e h run p has not_newly not_owed there unnamed =
    open_if (is_open c h p) (is_open c (e ∷ h) p) (is_newly_acknowledged e h p || is_owed c (e ∷ h) p || is_discarded_by c e h p || is_named_free c e h p) (closes_is c e h (tolerated_run_of c (e ∷ h) run) p has)
    (or_from (is_newly_acknowledged e h p || is_owed c (e ∷ h) p || is_discarded_by c e h p) (is_named_free c e h p)
    (or_from (is_newly_acknowledged e h p || is_owed c (e ∷ h) p) (is_discarded_by c e h p) (or_from (is_newly_acknowledged e h p) (is_owed c (e ∷ h) p) not_newly not_owed) there) unnamed)
    (open_before c e h (tolerated_run_of c (e ∷ h) run) p has)
