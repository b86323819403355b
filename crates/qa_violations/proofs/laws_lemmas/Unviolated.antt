-- Good lines violate nothing, so that each of their events counts.
use Rattle.std.proofs.Common.{◌≡◌, ◌+◌, ℕ, Bool, true, List, [], ◌∷◌, ◌++◌, length, Option, Some, None, Result, Ok, Err, refl, ap, ap₂}
use Rattle.std.specs.Option.{option_or}
use Rattle.qa_base.specs.declared.event.Event.{Event}
use Rattle.qa_base.specs.declared.rule.Rule.{Rule}
use Rattle.qa_base.specs.machine.Packets.{history_of}
use Rattle.qa_base.specs.machine.Rules.{IsRun}
use Rattle.qa_base.specs.values.Settings.{Settings}
use Rattle.qa_format.proofs.verdicts.Accepted.{AreRun, good_run}
use Rattle.qa_format.proofs.verdicts.Stops.{or_parts}
use Rattle.qa_format.specs.declared.fault.Fault.{Fault}
use Rattle.qa_format.specs.declared.form.Form.{Form}
use Rattle.qa_format.specs.declared.line.Line.{Line}
use Rattle.qa_format.specs.declared.verdict.Verdict.{Verdict}
use Rattle.qa_format.specs.format.Reading.{reading}
use Rattle.qa_format.specs.verdicts.Verdict.{AreGood, IsRunBy, events_in, first_stop, header_in, stop_after, strict}
use Rattle.qa_violations.proofs.laws_lemmas.Breaking.{no_violations}
use Rattle.qa_violations.specs.all.Tolerating.{explained, unviolated}
use Rattle.qa_violations.specs.allowed.Lines.{all_allowed, all_lates, allowed_on, allowed_said, each, lates_on, lates_said}
use Rattle.qa_why.specs.caveats.Caveats.{guessed_in}
use Rattle.qa_violations.specs.allowed.Rests.{rest, rest_of}
use Rattle.qa_violations.specs.around.Rows.{RowsOf, rows_after, rows_on, rows_said}
use Rattle.qa_violations.specs.declared.allowed.late.Late.{Late}
use Rattle.qa_violations.specs.declared.table.finding.Finding.{Finding}
use Rattle.qa_violations.specs.table.Table.{is_nil}

-- the latest event of a run violated nothing
run_unviolated : (c : Settings) (h : List Event) → IsRun c h → unviolated c h ≡ true
run_unviolated c [] run = refl
run_unviolated c (e ∷ h) run = ap (λ (rules : List Rule). is_nil (explained c h e rules)) (no_violations c h e run.1)

-- ---- what is told of lines of a run alone

abbrev AgreeOnRuns : {A : Type 0} → RowsOf A → RowsOf A → Type 0
AgreeOnRuns of other = (n : ℕ) (said : Line) (c : Settings) (h : List Event) → IsRun c h → of n said c h ≡ other n said c h

same_said : {A : Type 0} (of other : RowsOf A) → AgreeOnRuns of other → (n : ℕ) (s : Result Line Fault) (header : Option Settings) (events : List Event) → IsRunBy header events
    → rows_said of n s header (history_of events) ≡ rows_said other n s header (history_of events)
same_said of other agree n (Err f) None events run = refl
same_said of other agree n (Err f) (Some c) events run = refl
same_said of other agree n (Ok said) None events run = refl
same_said of other agree n (Ok said) (Some c) events run = agree n said c (history_of events) run

same_after : {A : Type 0} (of other : RowsOf A) → AgreeOnRuns of other → (before ls : List (List ℕ)) → first_stop (strict reading) before ls ≡ None → AreRun reading before
    → rows_after of before ls ≡ rows_after other before ls
same_after of other agree before [] good run = refl
same_after {A} of other agree before (l ∷ ls) good run =
    let parts = or_parts (stop_after (strict reading) before l) (first_stop (strict reading) (before ++ l ∷ []) ls) good in
    let more = good_run reading before (l ∷ []) (ap (λ (o : Option Verdict). option_or o None) parts.0) run in
    let here : rows_on of before l ≡ rows_on other before l =
    same_said of other agree (length before + 1) (reading l) (header_in reading (before ++ l ∷ [])) (events_in reading (before ++ l ∷ [])) more.0 in
    ap₂ (λ (xs ys : List A). xs ++ ys) here (same_after of other agree (before ++ l ∷ []) ls parts.1 more)

-- ---- what was allowed

pub same_allowed : (ls : List (List ℕ)) → AreGood (strict reading) ls → all_allowed unviolated ls ≡ all_allowed each ls
same_allowed ls good =
    same_after (allowed_on unviolated) (allowed_on each) (λ n said c h run. ap (λ (counts : Bool). allowed_said counts n said c h) (run_unviolated c h run)) [] ls good (refl, refl)

pub same_lates : (ls : List (List ℕ)) → AreGood (strict reading) ls → all_lates unviolated ls ≡ all_lates each ls
same_lates ls good =
    same_after (lates_on unviolated) (lates_on each) (λ n said c h run. ap (λ (counts : Bool). lates_said counts n said c h) (run_unviolated c h run)) [] ls good (refl, refl)

pub same_rest : (form : Form) (ls : List (List ℕ)) → AreGood (strict reading) ls → rest unviolated form ls ≡ rest each form ls
same_rest form ls good =
    ap₂ (λ (fs : List Finding) (lates : List Late). rest_of form (header_in reading ls) (history_of (events_in reading ls)) fs lates (guessed_in ls)) (same_allowed ls good) (same_lates ls good)
