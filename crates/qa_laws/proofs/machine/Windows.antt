-- The window by which packets are judged is NewReno's, unless the sender reports its own.
use Rattle.std.proofs.Common.{◌≡◌, ◌∙◌, ◌+◌, ◌*◌, ◌<◌, ◌≤◌, ℕ, List, [], ◌∷◌, Bool, true, false, ◌&&◌, ◌==◌, Option, Some, None, unwrap_or, refl, sym, ap, arith, subst, not}
use Rattle.std.proofs.lemmas.Bool.{ltb-false, ne_eqb}
use Rattle.std.specs.List.{AllByRecursion}
use Rattle.qa_base.specs.declared.event.Event.{Event}
use Rattle.qa_base.specs.declared.event.Event.TheVariants.{Metrics}
use Rattle.qa_base.specs.declared.event.MetricValues.{MetricValues}
use Rattle.qa_base.specs.declared.space.Controller.{Controller}
use Rattle.qa_base.specs.declared.space.Controller.TheVariants.{NewReno, Reported}
use Rattle.qa_base.specs.machine.Breaches.{is_above_collapse, is_collapse_missing}
use Rattle.qa_base.specs.machine.Loss.{declared, owed}
use Rattle.qa_base.specs.machine.Reno.{reno}
use Rattle.qa_base.specs.machine.Rules.{IsRun, broken, first_broken}
use Rattle.qa_base.specs.machine.Widths.{Fits, acknowledged_count}
use Rattle.qa_base.specs.machine.Window.{acknowledged_since_collapse, other_window, reported_window, unless_same, window, window_by, window_in}
use Rattle.qa_base.specs.values.Settings.{Settings, AreInRange, is_may, is_reported}
use Rattle.qa_base.proofs.machine.Declared.{must_declared_by}
use Rattle.qa_base.specs.machine.Estimates.{sampled}
use Rattle.qa_base.proofs.machine.RunLaws.{rules_hold}
use Rattle.qa_base.proofs.machine.WindowBound.{window_high, window_low}
use Rattle.qa_laws.proofs.machine.ConductOfWindows.{lower_by_loss}

-- ---- NewReno's

own_by : (controller : Controller) (own reported : ℕ) → is_reported controller ≡ false → window_by controller own reported ≡ own
own_by NewReno own reported is = refl
own_by Reported own reported is = cc

-- where no window is reported, it is NewReno's
pub own_window : (c : Settings) (h : List Event) → is_reported c.options.controller ≡ false → window c h ≡ (reno c h).window
own_window c h own = own_by c.options.controller (reno c h).window (reported_window c h) own

pub least_window : (c : Settings) (h : List Event) → is_reported c.options.controller ≡ false → AreInRange c → 2 * c.max_datagram_size ≤ window c h
least_window c h own in_range = subst (λ (n : ℕ). 2 * c.max_datagram_size ≤ n) (sym (own_window c h own)) (window_low c h in_range)

pub greatest_window : (c : Settings) (h : List Event) → is_reported c.options.controller ≡ false → AreInRange c → AllByRecursion Fits h
    → window c h ≤ c.initial_window + 65527 * acknowledged_count h
greatest_window c h own in_range fit = subst (λ (n : ℕ). n ≤ c.initial_window + 65527 * acknowledged_count h) (sym (own_window c h own)) (window_high c h in_range fit)

pub falls_by_loss : (c : Settings) (e : Event) (h : List Event) → is_reported c.options.controller ≡ false → window c (e ∷ h) < window c h → declared c (e ∷ h) ≡ [] → ⊥
falls_by_loss c e h own lower none =
    let here = own_window c (e ∷ h) own in
    let before = own_window c h own in
    lower_by_loss c e h (omega (arith, lower, here, before)) none

pub must_fall_by_loss : (c : Settings) (e : Event) (h : List Event) → is_may c.options.loss_by_number ≡ false → is_reported c.options.controller ≡ false → window c (e ∷ h) < window c h
    → owed c (e ∷ h) ≡ [] → ⊥
must_fall_by_loss c e h must own lower none = falls_by_loss c e h own lower (must_declared_by c (sampled c (e ∷ h)) e h must ∙ none)

must_by : (may reported : Bool) → (may && not reported) ≡ false → reported ≡ false → may ≡ false
must_by true reported said own = let no = rw own at said in cc
must_by false reported said own = refl

-- no header in its ranges lets a sender spare packets whose window is not reported
pub unreported_must : (c : Settings) → AreInRange c → is_reported c.options.controller ≡ false → is_may c.options.loss_by_number ≡ false
unreported_must c range own = must_by (is_may c.options.loss_by_number) (is_reported c.options.controller) range.spared_reported own

-- ---- one that is reported

reported_by : (controller : Controller) (own reported : ℕ) → is_reported controller ≡ true → window_by controller own reported ≡ reported
reported_by NewReno own reported is = cc
reported_by Reported own reported is = refl

lower_report : (before : ℕ) (report : Option ℕ) → unwrap_or report before < before → report ≡ Some (unwrap_or report before)
lower_report before None lower = absurd (omega (arith, lower))
lower_report before (Some n) lower = refl

-- an event that lowers a reported window reports it
pub falls_by_report : (c : Settings) (e : Event) (h : List Event) → is_reported c.options.controller ≡ true → window c (e ∷ h) < window c h → window_in e ≡ Some (window c (e ∷ h))
falls_by_report c e h is lower =
    let here : window c (e ∷ h) ≡ unwrap_or (window_in e) (reported_window c h) = reported_by c.options.controller (reno c (e ∷ h)).window (reported_window c (e ∷ h)) is in
    let before : window c h ≡ reported_window c h = reported_by c.options.controller (reno c h).window (reported_window c h) is in
    lower_report (reported_window c h) (window_in e) (omega (arith, lower, here, before)) ∙ ap Some (sym here)

pub starts_with_initial : (c : Settings) → is_reported c.options.controller ≡ true → window c [] ≡ c.initial_window
starts_with_initial c is = reported_by c.options.controller (reno c []).window c.initial_window is

-- and each report of a window makes it that one
pub is_last_report : (c : Settings) (e : Event) (h : List Event) → is_reported c.options.controller ≡ true → window c (e ∷ h) ≡ unwrap_or (window_in e) (window c h)
is_last_report c e h is =
    reported_by c.options.controller (reno c (e ∷ h)).window (reported_window c (e ∷ h)) is
    ∙ ap (unwrap_or (window_in e)) (sym (reported_by c.options.controller (reno c h).window (reported_window c h) is))

-- ---- behind persistent congestion

and_rest : (a b : Bool) → (a && b) ≡ false → a ≡ true → b ≡ false
and_rest true b none is = none
and_rest false b none is = cc

not_missing : (c : Settings) (h : List Event) (time : ℕ) (values : MetricValues) → first_broken c h (Metrics time values) ≡ None → is_collapse_missing c h (Metrics time values) ≡ false
unfolding first_broken
not_missing c h time values allowed =
    let holds = rules_hold (broken c h (Metrics time values)) allowed in
    holds.1.1.1.1.1.1.1.1.1.1.1.1.1.1.1.1.1.1.1.1.1.1.1.0

within_bound : (least in_force w n : ℕ) (report acknowledged : Option ℕ) → report ≡ Some w → acknowledged ≡ Some n → (w ≡ in_force → ⊥)
    → is_above_collapse least (unless_same in_force report) acknowledged ≡ false → w ≤ least + n
within_bound least in_force w n None acknowledged reports sum other is = cc
within_bound least in_force w n (Some r) None reports sum other is = cc
within_bound least in_force w n (Some r) (Some m) reports sum other is =
    let same : r ≡ w = cc in
    let all : m ≡ n = cc in
    let differs : (r == in_force) ≡ false = ne_eqb r in_force (λ equal. other (sym same ∙ equal)) in
    let kept = rw differs at is in
    let le = ltb-false (least + m) r kept in
    omega (arith, le, same, all)

-- a window that is reported then, and is another, is small
pub collapse_is_reported : (c : Settings) (h : List Event) (time : ℕ) (values : MetricValues) (reported acknowledged : ℕ) → is_reported c.options.controller ≡ true → IsRun c (Metrics time values ∷ h)
    → acknowledged_since_collapse c h ≡ Some acknowledged → values.window ≡ Some reported → (reported ≡ window c h → ⊥)
    → reported ≤ 2 * c.max_datagram_size + c.options.report_slack_bytes + acknowledged
collapse_is_reported c h time values reported acknowledged is run sum reports other =
    let least = 2 * c.max_datagram_size + c.options.report_slack_bytes in
    let in_force : window c h ≡ reported_window c h = reported_by c.options.controller (reno c h).window (reported_window c h) is in
    within_bound least (reported_window c h) reported acknowledged values.window (acknowledged_since_collapse c h) reports sum (λ same. other (same ∙ sym in_force))
    (and_rest (is_reported c.options.controller) (is_above_collapse least (other_window c h (Metrics time values)) (acknowledged_since_collapse c h)) (not_missing c h time values run.1) is)
