-- The conduct of a run, and so of a trace that is accepted.
use Rattle.std.proofs.Common.{◌≡◌, ℕ, List, [], ◌∷◌, ◌++◌, map, fold, Bool, true, false, Result, Ok, Err, refl, subst}
use Rattle.std.specs.List.{AllByRecursion}
use Rattle.std.specs.Prelude.{if◌then◌else◌}
use Rattle.qa_base.specs.declared.event.Event.{Event}
use Rattle.qa_base.specs.declared.event.Event.TheVariants.{Sent, Lost}
use Rattle.qa_format.specs.declared.fault.Fault.{Fault}
use Rattle.qa_format.specs.declared.line.Line.{Line}
use Rattle.qa_base.specs.declared.totals.Totals.{Totals}
use Rattle.qa_format.specs.declared.verdict.Verdict.TheVariants.{Accepted}
use Rattle.qa_laws.specs.machine.Conduct.{IsSenderRule}
use Rattle.qa_format.specs.format.Lines.{lines}
use Rattle.qa_base.specs.machine.Packets.{history_of}
use Rattle.qa_format.specs.format.Proper.{IsProperEvent, IsProperLine}
use Rattle.qa_base.specs.machine.Rules.{IsRun}
use Rattle.qa_base.specs.values.Settings.{Settings}
use Rattle.qa_format.specs.verdicts.Verdict.{strict, Reading, verdict, is_saying, sayings, event_line, trace_of}
use Rattle.qa_format.proofs.verdicts.Accepted.{accepted_is_run}
use Rattle.qa_laws.proofs.machine.ConductOfLosses.{lost_rightly}
use Rattle.qa_laws.proofs.machine.ConductOfSends.{past_window_by_permission}
use Rattle.qa_laws.proofs.machine.ConductOfWindows.{halved_once}
use Rattle.qa_base.proofs.machine.RunLaws.{prefix_of_run}

-- ---- proper events

proper_behind : (more h : List Event) → AllByRecursion IsProperEvent (more ++ h) → AllByRecursion IsProperEvent h
proper_behind [] h all = all
proper_behind (e ∷ more) h all = proper_behind more h all.1

pub proper_history : (h events : List Event) → AllByRecursion IsProperEvent h → AllByRecursion IsProperEvent events → AllByRecursion IsProperEvent (fold (λ (h : List Event) e. e ∷ h) h events)
proper_history h [] before all = before
proper_history h (e ∷ events) before all = proper_history (e ∷ h) events (all.0, before) all.1

abbrev IsProperSaying : Result Line Fault → Type 0
IsProperSaying (Err f) = Unit {0}
IsProperSaying (Ok x) = IsProperLine x

said_properly : (s : Result Line Fault) → ((x : Line) → s ≡ Ok x → IsProperLine x) → IsProperSaying s
said_properly (Err f) proper = tt
said_properly (Ok x) proper = proper x refl

kept_if : (s : Result Line Fault) (rest : List (Result Line Fault)) (keep : Bool) → IsProperSaying s → AllByRecursion IsProperSaying rest
    → AllByRecursion IsProperSaying (if keep then s ∷ rest else rest)
kept_if s rest true here all = (here, all)
kept_if s rest false here all = all

all_said_properly : (reading : Reading) (ls : List (List ℕ)) → ((l : List ℕ) (x : Line) → reading l ≡ Ok x → IsProperLine x) → AllByRecursion IsProperSaying (sayings reading ls)
all_said_properly reading [] proper = tt
all_said_properly reading (l ∷ ls) proper =
    kept_if (reading l) (sayings reading ls) (is_saying (reading l)) (said_properly (reading l) (proper l)) (all_said_properly reading ls proper)

proper_events : (events : List Event) → AllByRecursion IsProperSaying (map event_line events) → AllByRecursion IsProperEvent events
proper_events [] all = tt
proper_events (e ∷ events) all = (all.0, proper_events events all.1)

-- ---- the conduct of a run

pub conduct_of_run : (c : Settings) (h : List Event) → IsRun c h → AllByRecursion IsProperEvent h → IsSenderRule c h
conduct_of_run c h run proper = record {
  lost = λ after before time space ranges is n named.
      lost_rightly c before time space ranges
      (prefix_of_run c after (Lost time space ranges ∷ before) (subst (λ (k : List Event). IsRun c k) is run))
      (proper_behind after (Lost time space ranges ∷ before) (subst (λ (k : List Event). AllByRecursion IsProperEvent k) is proper)).1 n named;
  sent = λ after before packet is flies past.
      past_window_by_permission c before packet flies
      (prefix_of_run c after (Sent packet ∷ before) (subst (λ (k : List Event). IsRun c k) is run)) past;
  halved = λ after between before second first is enters_first enters_second other calm.
      halved_once c second first between before
      (prefix_of_run c after (second ∷ between ++ first ∷ before) (subst (λ (k : List Event). IsRun c k) is run)) enters_first enters_second other calm;
}

-- ---- and of bytes that are accepted

pub accepted_conduct : (reading : Reading) (bytes : List ℕ) (t : Totals) → ((l : List ℕ) (x : Line) → reading l ≡ Ok x → IsProperLine x)
    → verdict (strict reading) bytes ≡ Accepted t
    → (c : Settings) × (events : List Event) × (sayings reading (lines bytes) ≡ trace_of c events) × IsSenderRule c (history_of events)
accepted_conduct reading bytes t proper is =
    let trace = accepted_is_run reading bytes t is in
    let c = trace.2 in
    let events = trace.3 in
    let said = subst (λ (k : List (Result Line Fault)). AllByRecursion IsProperSaying k) trace.4 (all_said_properly reading (lines bytes) proper) in
    (c, events, trace.4, conduct_of_run c (history_of events) trace.5 (proper_history [] events tt (proper_events events said.1)))
