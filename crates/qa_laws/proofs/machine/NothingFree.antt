-- Where nothing is free, losses that may be declared are those that must be.
use Rattle.std.proofs.Common.{◌≡◌, ◌∙◌, ◌↔◌, ℕ, List, [], ◌∷◌, Bool, true, false, ◌&&◌, ◌||◌, not, Option, Some, None, refl, sym, ap, arith, Contains, filter}
use Rattle.std.proofs.lemmas.Bool.{false_from_ne_true}
use Rattle.std.specs.Prelude.{nat_lt}
use Rattle.qa_base.specs.declared.event.Event.{Event}
use Rattle.qa_base.specs.declared.space.LossByNumber.TheVariants.{Must}
use Rattle.qa_base.specs.declared.space.Space.{Space}
use Rattle.qa_base.specs.machine.Detection.{detection_by, is_at, is_far_below, is_found, is_left, is_old, is_past_threshold, is_unsettled, may_be_spared}
use Rattle.qa_base.specs.machine.Estimates.{sampled}
use Rattle.qa_base.specs.machine.Loss.{free, is_free, is_nameable, is_owed, nameable, owed}
use Rattle.qa_base.specs.machine.Packets.{Packet, packets, is_of, largest_acknowledged}
use Rattle.qa_base.specs.machine.Rtt.{Estimate}
use Rattle.qa_base.specs.machine.Rules.{IsRun, first_broken}
use Rattle.qa_base.specs.machine.State.{totals}
use Rattle.qa_base.specs.values.Events.{declares_lost}
use Rattle.qa_base.specs.values.Settings.{Settings, is_may}
use Rattle.qa_base.proofs.machine.Declared.{free_is, must_nameable, none_free_by, owed_is}
use Rattle.qa_laws.specs.machine.Alike.{NothingFree, where_they_must}
use Rattle.qa_laws.proofs.machine.Alike.{Agree, detects_at, detects_if_equally_early, like, same_owed, same_totals}
use Rattle.qa_base.proofs.history.Pairs.{of_each, part_has, same_part}
use Rattle.qa_laws.proofs.machine.SameVersion.{same_broken_by, varied}

has_none : (ps : List Packet) (p : Packet) → Contains ps p → ps ≡ [] → ⊥
has_none [] p (k, within, is) none = omega arith
has_none (q ∷ ps) p has none = cc

not_free : (c : Settings) (h : List Event) → free c h ≡ [] → (p : Packet) → Contains (packets h) p → is_free c h p ≡ false
not_free c h none p has = false_from_ne_true (is_free c h p) (λ is. has_none (filter (is_free c h) (packets h)) p (part_has (is_free c h) (packets h) p has is) (sym (free_is c h) ∙ none))

none_at : (c : Settings) (h : List Event) → NothingFree c h → (p : Packet) → Contains (packets h) p → is_free c h p ≡ false
none_at c [] nothing p (k, within, is) = absurd (omega (arith, within))
none_at c (e ∷ h) nothing p has = not_free c (e ∷ h) nothing.1 p has

-- ---- what is found is the same

nothing_left : (of_space asked below may far old : Bool) → (of_space && (asked && (below && (may && far) && not old))) ≡ false
    → (of_space && (asked && (below && ((not false && far) || old)))) ≡ (of_space && (asked && (below && ((not may && far) || old))))
nothing_left false asked below may far old none = refl
nothing_left true false below may far old none = refl
nothing_left true true false may far old none = refl
nothing_left true true true false far old none = refl
nothing_left true true true true false old none = refl
nothing_left true true true true true true none = refl
nothing_left true true true true true false none = cc

found_by : (c : Settings) (r : Estimate) (h : List Event) (p : Packet) (s : Space) (now : ℕ) (most : Option ℕ)
    → (is_of s p && (p.in_flight && is_unsettled h p && may_be_spared c r h now most p)) ≡ false
    → (is_of s p && (p.in_flight && is_unsettled h p && is_past_threshold (where_they_must c) r h now most p)) ≡ (is_of s p && (p.in_flight && is_unsettled h p && is_past_threshold c r h now most p))
found_by c r h p s now None none = refl
found_by c r h p s now (Some m) none =
    nothing_left (is_of s p) (p.in_flight && is_unsettled h p) (nat_lt p.number m) (is_may c.options.loss_by_number) (is_far_below c h m p) (is_old c r now p) none

found_strictly : (c : Settings) (r : Estimate) (h : List Event) (p : Packet) (d : Option (Space × ℕ)) → is_at (is_left c r h) p d ≡ false → is_at (is_found (where_they_must c) r h) p d ≡ is_at (is_found c r h) p d
found_strictly c r h p None none = refl
found_strictly c r h p (Some (s, now)) none = found_by c r h p s now (largest_acknowledged h s) none

agree_strictly : (c : Settings) (h : List Event) → NothingFree c h → Agree c (varied c c.version Must c.options.threshold_counts) h
agree_strictly c [] nothing = tt
agree_strictly c (e ∷ h) nothing =
    let t = varied c c.version Must c.options.threshold_counts in (
      agree_strictly c h nothing.0,
      record {
        owes = λ p has. ap (is_at (is_found (like c t) (sampled c (e ∷ h)) (e ∷ h)) p) (detects_at c t (e ∷ h) (detects_if_equally_early c t (e ∷ h) refl))
            ∙ found_strictly c (sampled c (e ∷ h)) (e ∷ h) p (detection_by c (sampled c (e ∷ h)) (e ∷ h)) (not_free c (e ∷ h) nothing.1 p has);
        names = λ p has. ap (λ b. b && declares_lost p.space p.number e) (none_free_by (like c t) (sampled c h) h p refl)
            ∙ sym (ap (λ b. b && declares_lost p.space p.number e) (none_at c h nothing.0 p has));
      },
    )

or_none : (a b : Bool) → b ≡ false → (a || b) ≡ a
or_none true b none = refl
or_none false b none = none

-- a Lost line may name the same
nameable_strictly : (c : Settings) (h : List Event) → NothingFree c h → nameable (where_they_must c) h ≡ nameable c h
nameable_strictly c h nothing =
    must_nameable (where_they_must c) h refl
    ∙ (same_owed c (varied c c.version Must c.options.threshold_counts) h (agree_strictly c h nothing)
    ∙ (owed_is c h
    ∙ sym (same_part (is_nameable c h) (is_owed c h) (packets h) (of_each (λ p. is_nameable c h p ≡ is_owed c h p) (packets h) (λ p has. or_none (is_owed c h p) (is_free c h p) (none_at c h nothing p has))))))

same_rule : (c : Settings) (h : List Event) → NothingFree c h → (e : Event) → first_broken (where_they_must c) h e ≡ first_broken c h e
same_rule c h nothing e = same_broken_by c c.version Must c.options.threshold_counts h (agree_strictly c h nothing) (nameable_strictly c h nothing) e

-- ---- runs

run_there : (c : Settings) (h : List Event) → NothingFree c h → IsRun c h → IsRun (where_they_must c) h
run_there c [] nothing run = tt
run_there c (e ∷ h) nothing run = (run_there c h nothing.0 run.0, same_rule c h nothing.0 e ∙ run.1)

run_back : (c : Settings) (h : List Event) → NothingFree c h → IsRun (where_they_must c) h → IsRun c h
run_back c [] nothing run = tt
run_back c (e ∷ h) nothing run = (run_back c h nothing.0 run.0, sym (same_rule c h nothing.0 e) ∙ run.1)

pub same_runs_strictly : (c : Settings) (h : List Event) → NothingFree c h → IsRun (where_they_must c) h ↔ IsRun c h
same_runs_strictly c h nothing = (run_back c h nothing, run_there c h nothing)

pub same_totals_strictly : (c : Settings) (h : List Event) → NothingFree c h → totals (where_they_must c) h ≡ totals c h
same_totals_strictly c h nothing = same_totals c (varied c c.version Must c.options.threshold_counts) h (agree_strictly c h nothing)

pub same_owed_strictly : (c : Settings) (h : List Event) → NothingFree c h → owed (where_they_must c) h ≡ owed c h
same_owed_strictly c h nothing = same_owed c (varied c c.version Must c.options.threshold_counts) h (agree_strictly c h nothing)
