-- An accepted trace violates nothing.
use Rattle.std.proofs.Common.{◌≡◌, ◌∙◌, ◌+◌, ℕ, List, [], ◌∷◌, ◌++◌, length, Option, Some, None, Result, Ok, Err, refl, sym, ap, ap₂}
use Rattle.std.proofs.lemmas.List.{append-nil}
use Rattle.std.specs.Option.{option_or}
use Rattle.std.specs.Prelude.{map, option_map, unwrap_or}
use Rattle.qa_violations.specs.all.All.{all_outcome, all_text, tolerated_run_in, outcome_with, past_sender_rules, told_by}
use Rattle.qa_violations.specs.all.Tolerating.{explained, unviolated}
use Rattle.qa_violations.specs.all.Violated.{Violated, all_violated, violated, violated_after, violated_at, violated_on, findings, history_in}
use Rattle.qa_violations.specs.all.Objects.{members_of_none}
use Rattle.qa_violations.proofs.around_lemmas.Laws.{around_none}
use Rattle.qa_violations.proofs.laws_lemmas.Unviolated.{same_rest}
use Rattle.qa_violations.specs.allowed.Lines.{each}
use Rattle.qa_violations.specs.allowed.Rests.{rest, rest_behind}
use Rattle.qa_violations.specs.around.Around.{around_text, around_told, objects_behind, outcome_by}
use Rattle.qa_violations.specs.around.Members.{member_of}
use Rattle.qa_base.proofs.machine.RunLaws.{unbroken_is_tolerated}
use Rattle.qa_base.specs.declared.event.Event.{Event}
use Rattle.qa_base.specs.declared.rule.Rule.{Rule}
use Rattle.qa_base.specs.declared.totals.Totals.{Totals}
use Rattle.qa_base.specs.machine.Violations.{first_untolerated}
use Rattle.qa_base.specs.machine.Packets.{history_of}
use Rattle.qa_base.specs.machine.Rules.{first_broken}
use Rattle.qa_base.specs.machine.State.{totals}
use Rattle.qa_base.specs.values.Settings.{Settings}
use Rattle.qa_violations.proofs.laws_lemmas.Breaking.{no_violations}
use Rattle.qa_check.specs.Audit.{outcome_of}
use Rattle.qa_check.specs.declared.auditing.Outcome.{Outcome}
use Rattle.qa_check.specs.declared.auditing.Outcome.TheVariants as outcomes
use Rattle.qa_format.proofs.verdicts.Stops.{or_parts, said_reading}
use Rattle.qa_format.specs.declared.fault.Fault.{Fault}
use Rattle.qa_format.specs.declared.line.Line.{Line}
use Rattle.qa_format.specs.declared.line.Line.TheVariants as line
use Rattle.qa_format.specs.declared.verdict.Verdict.{Verdict}
use Rattle.qa_format.specs.declared.verdict.Verdict.TheVariants.{Accepted, Refused}
use Rattle.qa_format.specs.format.Lines.{lines}
use Rattle.qa_format.specs.format.Reading.{reading}
use Rattle.qa_format.specs.verdicts.Verdict.{AreGood, end_of, event_said, events_in, first_stop, header_in, said, stop_after, stop_at, strict, verdict, verdict_of}
use Rattle.qa_why.proofs.Told.{good_at_end, why_at_end}
use Rattle.qa_why.specs.Objects.{object_line}
use Rattle.qa_why.specs.Why.{good_lines, told_at, why_by}
use Rattle.qa_format.specs.declared.form.Form.{Form}
use Rattle.qa_format.specs.declared.form.Form.TheVariants as forms

-- ---- a verdict of accepted is that of the end

not_refused : (o : Option Rule) (n : ℕ) (u t : Totals) → option_map (λ r. Refused n r u) o ≡ Some (Accepted t) → ⊥
not_refused None n u t is = cc
not_refused (Some r) n u t is = cc

no_stop_accepts : (n : ℕ) (header : Option Settings) (h : List Event) (s : Result Line Fault) (t : Totals) → stop_at first_broken n header h s ≡ Some (Accepted t) → ⊥
no_stop_accepts n header h (Err f) t is = cc
no_stop_accepts n None h (Ok line.Blank) t is = cc
no_stop_accepts n (Some c) h (Ok line.Blank) t is = cc
no_stop_accepts n None h (Ok (line.Header c)) t is = cc
no_stop_accepts n (Some d) h (Ok (line.Header c)) t is = cc
no_stop_accepts n None h (Ok (line.Event e)) t is = cc
no_stop_accepts n (Some c) h (Ok (line.Event e)) t is = not_refused (first_broken c h e) n (totals c h) t is

no_line_accepts : (before : List (List ℕ)) (l : List ℕ) (t : Totals) → stop_after (strict reading) before l ≡ Some (Accepted t) → ⊥
unfolding stop_after
no_line_accepts before l t is = no_stop_accepts (length before + 1) (header_in reading before) (history_of (events_in reading before)) (said reading (length before) l) t is

neither : (o p : Option Verdict) (v : Verdict) → (o ≡ Some v → ⊥) → (p ≡ Some v → ⊥) → option_or o p ≡ Some v → ⊥
neither None p v first second is = second is
neither (Some w) p v first second is = first is

no_lines_accept : (before ls : List (List ℕ)) (t : Totals) → first_stop (strict reading) before ls ≡ Some (Accepted t) → ⊥
no_lines_accept before [] t is = cc
no_lines_accept before (l ∷ ls) t is =
    neither (stop_after (strict reading) before l) (first_stop (strict reading) (before ++ l ∷ []) ls) (Accepted t) (no_line_accepts before l t) (no_lines_accept (before ++ l ∷ []) ls t) is

at_end : (o : Option Verdict) (v : Verdict) (t : Totals) → (o ≡ Some (Accepted t) → ⊥) → unwrap_or o v ≡ Accepted t → o ≡ None
at_end None v t not is = refl
at_end (Some w) v t not is = absurd (not (ap Some is))

pub accepted_is_good : (bytes : List ℕ) (t : Totals) → verdict (strict reading) bytes ≡ Accepted t → AreGood (strict reading) (lines bytes)
unfolding verdict_of
accepted_is_good bytes t is = at_end (first_stop (strict reading) [] (lines bytes)) (end_of reading (lines bytes)) t (no_lines_accept [] (lines bytes) t) is

-- ---- good lines violate nothing

none_broken : (n : ℕ) (t : Totals) (o : Option Rule) → option_map (λ r. Refused n r t) o ≡ None → o ≡ None
none_broken n t None good = refl
none_broken n t (Some r) good = cc

tolerated_at : (n : ℕ) (header : Option Settings) (h : List Event) (s : Result Line Fault) → stop_at first_broken n header h s ≡ None → stop_at first_untolerated n header h s ≡ None
tolerated_at n header h (Err f) good = cc
tolerated_at n None h (Ok line.Blank) good = refl
tolerated_at n (Some c) h (Ok line.Blank) good = refl
tolerated_at n None h (Ok (line.Header c)) good = refl
tolerated_at n (Some d) h (Ok (line.Header c)) good = cc
tolerated_at n None h (Ok (line.Event e)) good = cc
tolerated_at n (Some c) h (Ok (line.Event e)) good =
    ap (λ (o : Option Rule). option_map (λ r. Refused n r (totals c h)) o) (unbroken_is_tolerated c h e (none_broken n (totals c h) (first_broken c h e) good))

none_at : (n m : ℕ) (before : List (List ℕ)) (l : List ℕ) (header : Option Settings) (h : List Event) (s : Result Line Fault) → stop_at first_broken n header h s ≡ None → violated_at m before l header h (event_said s) ≡ []
none_at n m before l header h (Err f) good = cc
none_at n m before l None h (Ok line.Blank) good = refl
none_at n m before l (Some c) h (Ok line.Blank) good = refl
none_at n m before l None h (Ok (line.Header c)) good = refl
none_at n m before l (Some d) h (Ok (line.Header c)) good = cc
none_at n m before l None h (Ok (line.Event e)) good = cc
none_at n m before l (Some c) h (Ok (line.Event e)) good =
    ap (λ (rules : List Rule). map (violated c.unit m before l e) (explained c h e rules)) (no_violations c h e (none_broken n (totals c h) (first_broken c h e) good))

-- a line that is good was read
read_so : (n : ℕ) (header : Option Settings) (h : List Event) (count : ℕ) (l : List ℕ) (s : Result Line Fault) → said reading count l ≡ s → stop_at first_broken n header h s ≡ None → reading l ≡ s
read_so n header h count l (Err f) is good = cc
read_so n header h count l (Ok x) is good = said_reading reading count l is

pub tolerated_after : (before : List (List ℕ)) (l : List ℕ) → stop_after (strict reading) before l ≡ None → stop_after past_sender_rules before l ≡ None
unfolding stop_after
tolerated_after before l good = tolerated_at (length before + 1) (header_in reading before) (history_of (events_in reading before)) (said reading (length before) l) good

pub none_on : (before : List (List ℕ)) (l : List ℕ) → stop_after (strict reading) before l ≡ None → violated_on before l ≡ []
unfolding stop_after
none_on before l good =
    let s = said reading (length before) l in
    let read = read_so (length before + 1) (header_in reading before) (history_of (events_in reading before)) (length before) l s refl good in
    ap (λ (r : Result Line Fault). violated_at (length before + 1) before l (header_in reading before) (history_in before) (event_said r)) read
    ∙ none_at (length before + 1) (length before + 1) before l (header_in reading before) (history_in before) s good

pub tolerated_lines : (before ls : List (List ℕ)) → first_stop (strict reading) before ls ≡ None → first_stop past_sender_rules before ls ≡ None
tolerated_lines before [] good = refl
tolerated_lines before (l ∷ ls) good =
    let parts = or_parts (stop_after (strict reading) before l) (first_stop (strict reading) (before ++ l ∷ []) ls) good in
    ap₂ (λ (o p : Option Verdict). option_or o p) (tolerated_after before l parts.0) (tolerated_lines (before ++ l ∷ []) ls parts.1)

pub none_violated : (before ls : List (List ℕ)) → first_stop (strict reading) before ls ≡ None → violated_after before ls ≡ []
none_violated before [] good = refl
none_violated before (l ∷ ls) good =
    let parts = or_parts (stop_after (strict reading) before l) (first_stop (strict reading) (before ++ l ∷ []) ls) good in
    ap₂ (λ (ds es : List Violated). ds ++ es) (none_on before l parts.0) (none_violated (before ++ l ∷ []) ls parts.1)

-- ---- what is told

verdict_same : (ls : List (List ℕ)) → first_stop (strict reading) [] ls ≡ None → first_stop past_sender_rules [] ls ≡ None → verdict_of past_sender_rules ls ≡ verdict_of (strict reading) ls
unfolding verdict_of
verdict_same ls good tolerated = ap (λ (o : Option Verdict). unwrap_or o (end_of reading ls)) (tolerated ∙ sym good)

why_same : (form : Form) (name bytes : List ℕ) → AreGood (strict reading) (lines bytes) → why_by past_sender_rules form name bytes ≡ why_by (strict reading) form name bytes
why_same form name bytes good =
    let ls = lines bytes in
    let tolerated = tolerated_lines [] ls good in
    why_at_end past_sender_rules form name bytes ls tolerated refl
    ∙ (ap (λ v. told_at past_sender_rules form name v (ls, None)) (verdict_same ls good tolerated) ∙ sym (why_at_end (strict reading) form name bytes ls good refl))

-- the verdict, past violations too
accepted_past : (bytes : List ℕ) (t : Totals) → verdict (strict reading) bytes ≡ Accepted t → outcome_of (verdict past_sender_rules bytes) ≡ outcomes.Accepted
accepted_past bytes t is =
    let good = accepted_is_good bytes t is in
    ap outcome_of (verdict_same (lines bytes) good (tolerated_lines [] (lines bytes) good) ∙ is)

told_same : (count : ℕ) (form : Form) (name bytes : List ℕ) (t : Totals) → verdict (strict reading) bytes ≡ Accepted t
    → told_by count form name bytes ≡ tolerated_run_in count form name (lines bytes) outcomes.Accepted (why_by (strict reading) form name bytes)
unfolding told_by
told_same count form name bytes t is =
    let good = accepted_is_good bytes t is in
    let tolerated = tolerated_lines [] (lines bytes) good in
    ap₂ (λ (ls : List (List ℕ)) (text : List ℕ). tolerated_run_in count form name ls (outcome_of (verdict past_sender_rules bytes)) text) (good_at_end past_sender_rules bytes (lines bytes) tolerated refl) (why_same form name bytes good)
    ∙ ap (λ outcome. tolerated_run_in count form name (lines bytes) outcome (why_by (strict reading) form name bytes)) (accepted_past bytes t is)

-- what the verdict rests on, past violations too
rest_same : (form : Form) (bytes : List ℕ) (t : Totals) → verdict (strict reading) bytes ≡ Accepted t
    → rest unviolated form (lines bytes) ≡ rest_behind each form (outcome_by bytes) (good_lines (strict reading) bytes)
rest_same form bytes t is =
    let good = accepted_is_good bytes t is in
    same_rest form (lines bytes) good
    ∙ (ap (λ (ls : List (List ℕ)). rest each form ls) (sym (good_at_end (strict reading) bytes (lines bytes) good refl))
    ∙ ap (λ (outcome : Outcome). rest_behind each form outcome (good_lines (strict reading) bytes)) (sym (ap outcome_of is)))

pub text_of_accepted : (count : ℕ) (name bytes : List ℕ) (t : Totals) → verdict (strict reading) bytes ≡ Accepted t → all_text count forms.Text name bytes ≡ around_text 0 forms.Text name bytes
text_of_accepted count name bytes t is =
    let good = accepted_is_good bytes t is in
    let none : all_violated (lines bytes) ≡ [] = none_violated [] (lines bytes) good in
    let text = why_by (strict reading) forms.Text name bytes in
    let told : tolerated_run_in count forms.Text name (lines bytes) outcomes.Accepted text ≡ text ++ rest unviolated forms.Text (lines bytes) =
    rw none (ap (λ (front : List ℕ). front ++ rest unviolated forms.Text (lines bytes)) (append-nil (text ++ []) ∙ append-nil text)) in
    told_same count forms.Text name bytes t is
    ∙ (told ∙ (ap (λ (more : List ℕ). text ++ more) (rest_same forms.Text bytes t is) ∙ sym (around_none forms.Text name bytes)))

-- the members of the trace itself
around_accepted : (count : ℕ) (name bytes : List ℕ) (t : Totals) → verdict (strict reading) bytes ≡ Accepted t
    → around_told count forms.Json name bytes ≡ (why_by (strict reading) forms.Json name bytes ++ rest unviolated forms.Json (lines bytes)) ++ member_of count []
unfolding around_told
around_accepted count name bytes t is =
    let told = why_by (strict reading) forms.Json name bytes in
    ap (λ (outcome : Outcome). told ++ rest_behind each forms.Json (outcome_by bytes) (good_lines (strict reading) bytes) ++ objects_behind outcome count (good_lines (strict reading) bytes)) (ap outcome_of is)
    ∙ ap (λ (more : List ℕ). told ++ more ++ member_of count []) (sym (rest_same forms.Json bytes t is))

pub object_of_accepted : (count : ℕ) (name bytes : List ℕ) (t : Totals) → verdict (strict reading) bytes ≡ Accepted t
    → all_text count forms.Json name bytes ≡ object_line name (members_of_none (around_told count forms.Json name bytes))
object_of_accepted count name bytes t is =
    let good = accepted_is_good bytes t is in
    let none : all_violated (lines bytes) ≡ [] = none_violated [] (lines bytes) good in
    ap (object_line name) (told_same count forms.Json name bytes t is ∙ (rw none (ap members_of_none (sym (around_accepted count name bytes t is)))))

pub outcome_of_accepted : (bytes : List ℕ) (t : Totals) → verdict (strict reading) bytes ≡ Accepted t → all_outcome bytes ≡ outcomes.Accepted
unfolding all_outcome
outcome_of_accepted bytes t is =
    let good = accepted_is_good bytes t is in
    let tolerated = tolerated_lines [] (lines bytes) good in
    let none : all_violated (lines bytes) ≡ [] = none_violated [] (lines bytes) good in
    ap₂ (λ (ls : List (List ℕ)) (outcome : Outcome). outcome_with (findings (all_violated ls)) outcome) (good_at_end past_sender_rules bytes (lines bytes) tolerated refl) (accepted_past bytes t is) ∙ (rw none refl)
