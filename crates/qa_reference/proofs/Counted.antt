-- The PTO count after each event of a tolerated run.
use Rattle.std.proofs.Common.{◌≡◌, ◌∙◌, ◌≤◌, ℕ, List, [], ◌∷◌, ◌++◌, refl, sym, ap, subst, take, drop, append_assoc}
use Rattle.std.proofs.lemmas.List.{take-append-drop}
use Rattle.std.proofs.lemmas.List.Sums.{fold-append}
use Rattle.std.specs.List.{AllByRecursion, fold}
use Rattle.qa_base.specs.declared.event.Event.{Event}
use Rattle.qa_base.specs.machine.Packets.{history_of}
use Rattle.qa_base.specs.machine.Violations.{IsToleratedRun}
use Rattle.qa_base.specs.machine.Timer.{pto_count}
use Rattle.qa_base.specs.machine.Widths.{IsTimely}
use Rattle.qa_base.specs.values.Settings.{Settings}
use Rattle.qa_base.proofs.machine.PtoCount.{small_pto_count}
use Rattle.qa_base.proofs.machine.RunLaws.{prefix_of_tolerated_run}

-- events put in front of a history
onto_is : (h events : List Event) → fold (λ (h : List Event) e. e ∷ h) h events ≡ history_of events ++ h
onto_is h [] = refl
onto_is h (e ∷ events) =
    onto_is (e ∷ h) events
    ∙ (sym (append_assoc (history_of events) (e ∷ []) h) ∙ ap (λ (xs : List Event). xs ++ h) (sym (onto_is (e ∷ []) events)))

behind : (n : ℕ) (events : List Event) → history_of events ≡ history_of (drop n events) ++ history_of (take n events)
behind n events =
    ap history_of (sym (take-append-drop n events))
    ∙ (fold-append (λ (h : List Event) e. e ∷ h) [] (take n events) (drop n events) ∙ onto_is (history_of (take n events)) (drop n events))

timely_before : (more h : List Event) → AllByRecursion IsTimely (more ++ h) → AllByRecursion IsTimely h
timely_before [] h timely = timely
timely_before (e ∷ more) h timely = timely_before more h timely.1

pub each_count : (c : Settings) (events : List Event) → IsToleratedRun c (history_of events) → AllByRecursion IsTimely (history_of events) → (n : ℕ) → pto_count c (history_of (take n events)) ≤ 40
each_count c events run timely n =
    let before = history_of (take n events) in
    let more = history_of (drop n events) in
    small_pto_count c before
    (prefix_of_tolerated_run c more before (subst (λ (h : List Event). IsToleratedRun c h) (behind n events) run))
    (timely_before more before (subst (λ (h : List Event). AllByRecursion IsTimely h) (behind n events) timely))
