-- Runs in which losses by number must be declared, and runs in which they may be and that spare none.
use Rattle.std.proofs.Common.{◌≡◌, ◌∙◌, ◌+◌, ◌≤◌, max, ℕ, List, [], ◌∷◌, true, false, Option, Some, None, refl, sym, ap, arith, inl, inr}
use Rattle.std.proofs.lemmas.Bool.{le-ltb, ltb-false}
use Rattle.qa_base.specs.declared.event.Event.{Event}
use Rattle.qa_base.specs.machine.Breaches.{is_late_by, is_past_due, is_timer_late}
use Rattle.qa_base.specs.machine.Loss.{free}
use Rattle.qa_base.specs.machine.Rules.{IsRun}
use Rattle.qa_base.specs.machine.State.{totals}
use Rattle.qa_base.specs.machine.Timer.{Due, packet_deadline, set_since}
use Rattle.qa_base.specs.values.Events.{time_of}
use Rattle.qa_base.specs.values.Settings.{Settings, in_unit, is_reported}
use Rattle.qa_laws.specs.machine.Alike.{where_they_must}
use Rattle.qa_laws.specs.losses.Sparing.{AreAtOnce, NoneSpared}
use Rattle.qa_laws.proofs.losses_lemmas.Deadlines.{same_packet_deadline, same_totals}
use Rattle.qa_laws.proofs.losses_lemmas.Late.{in_time, lost_in_time}
use Rattle.qa_laws.proofs.losses_lemmas.Owing.{decide}
use Rattle.qa_laws.proofs.losses_lemmas.Rules.{alike_lost, alike_settled, allowed_back, allowed_there}
use Rattle.qa_laws.proofs.losses_lemmas.Settling.{Formed, formed_of_named, formed_of_run, none_spared}
use Rattle.qa_laws.proofs.losses_lemmas.Since.{later}

-- ---- late timers

past_later : (limit since later time : ℕ) (due : Option Due) → since ≤ later → is_past_due limit since time due ≡ false → is_past_due limit later time due ≡ false
past_later limit since later time None le is = refl
past_later limit since later time (Some due) le is = let within = ltb-false (max due.time since + limit) time is in le-ltb (max due.time later + limit) time (omega (arith, within, le))

late_by : (c : Settings) (h : List Event) (time : ℕ) (limit : Option ℕ) → Formed c h → free c h ≡ [] → set_since (where_they_must c) h ≤ set_since c h
    → is_late_by (where_they_must c) h time limit ≡ false → is_late_by c h time limit ≡ false
late_by c h time None formed none le is = refl
late_by c h time (Some limit) formed none le is =
    let n = in_unit c.unit limit in
    let m = where_they_must c in
    past_later n (set_since m h) (set_since c h) time (packet_deadline c h) le (ap (is_past_due n (set_since m h) time) (sym (same_packet_deadline c h formed none)) ∙ is)

no_limit : (c : Settings) (h : List Event) (e : Event) → c.options.timer_late ≡ None → is_timer_late c h e ≡ false
no_limit c h e none = ap (is_late_by c h (time_of e)) none

-- ---- runs

-- with Lost lines at the times of their detections
pub may_at_once : (c : Settings) (h : List Event) → is_reported c.options.controller ≡ true → AreAtOnce h → IsRun (where_they_must c) h → IsRun c h
may_at_once c [] reported at run = tt
may_at_once c (e ∷ h) reported at run =
    let rest = may_at_once c h reported at.0 run.0 in
    let formed = formed_of_run c (e ∷ h) run in
    elim (decide c h) [
      | inl none ↦ (
        rest,
        allowed_there c h e (alike_settled c h e reported formed.0 none) formed.0 formed.1
            (late_by c h (time_of e) c.options.timer_late formed.0 none (later c h formed.0 at.0 run.0 none) (in_time (where_they_must c) h e run.1)) run.1,
      )
      | inr some ↦ (rest, allowed_there c h e (alike_lost c h e formed.1 some) formed.0 formed.1 (lost_in_time c e h formed.1 some at.1 rest) run.1)
    ]

-- with no limit of lateness
pub may_unlimited : (c : Settings) (h : List Event) → is_reported c.options.controller ≡ true → c.options.timer_late ≡ None → IsRun (where_they_must c) h → IsRun c h
may_unlimited c [] reported unlimited run = tt
may_unlimited c (e ∷ h) reported unlimited run =
    let rest = may_unlimited c h reported unlimited run.0 in
    let formed = formed_of_run c (e ∷ h) run in
    elim (decide c h) [
      | inl none ↦ (rest, allowed_there c h e (alike_settled c h e reported formed.0 none) formed.0 formed.1 (no_limit c h e unlimited) run.1)
      | inr some ↦ (rest, allowed_there c h e (alike_lost c h e formed.1 some) formed.0 formed.1 (no_limit c h e unlimited) run.1)
    ]

-- and back
pub must_unlimited : (c : Settings) (h : List Event) → is_reported c.options.controller ≡ true → c.options.timer_late ≡ None → NoneSpared c h → IsRun c h → IsRun (where_they_must c) h
must_unlimited c [] reported unlimited spared run = tt
must_unlimited c (e ∷ h) reported unlimited spared run =
    let rest = must_unlimited c h reported unlimited spared.0 run.0 in
    let formed = formed_of_named c (e ∷ h) spared run in
    elim (decide c h) [
      | inl none ↦ (rest, allowed_back c h e (alike_settled c h e reported formed.0 none) formed.0 formed.1 (no_limit (where_they_must c) h e unlimited) run.1)
      | inr some ↦ (rest, allowed_back c h e (alike_lost c h e formed.1 some) formed.0 formed.1 (no_limit (where_they_must c) h e unlimited) run.1)
    ]

-- ---- what else such runs have

pub spares_none : (c : Settings) (h : List Event) → IsRun (where_they_must c) h → NoneSpared c h
spares_none c h run = none_spared c h (formed_of_run c h run)

pub same_held : (c : Settings) (h : List Event) → is_reported c.options.controller ≡ true → IsRun (where_they_must c) h → free c h ≡ [] → totals (where_they_must c) h ≡ totals c h
same_held c h reported run none = same_totals c h reported (formed_of_run c h run) none

pub same_held_back : (c : Settings) (h : List Event) → is_reported c.options.controller ≡ true → NoneSpared c h → IsRun c h → free c h ≡ [] → totals (where_they_must c) h ≡ totals c h
same_held_back c h reported spared run none = same_totals c h reported (formed_of_named c h spared run) none
