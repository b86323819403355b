-- With no rows it is told of a trace what is told elsewhere.
use Rattle.std.proofs.Common.{◌≡◌, ◌≢◌, ◌∙◌, ℕ, List, [], ◌++◌, ap, refl}
use Rattle.std.proofs.lemmas.List.{append-nil}
use Rattle.qa_violations.proofs.around_lemmas.Rows.{last_of_none}
use Rattle.qa_violations.specs.allowed.Lines.{each}
use Rattle.qa_violations.specs.allowed.Rests.{rest_behind}
use Rattle.qa_violations.specs.around.Around.{around_text, around_told, behind, outcome_by}
use Rattle.qa_violations.specs.around.Rows.{rows, rows_before}
use Rattle.qa_violations.specs.around.Texts.{rows_text}
use Rattle.qa_check.specs.declared.auditing.Outcome.{Outcome}
use Rattle.qa_check.specs.declared.auditing.Outcome.TheVariants.{Accepted, Refused, Unreadable}
use Rattle.qa_format.specs.format.Reading.{reading}
use Rattle.qa_format.specs.verdicts.Verdict.{strict}
use Rattle.qa_why.specs.Why.{good_lines, whole, why, why_by}
use Rattle.qa_format.specs.declared.form.Form.{Form}
use Rattle.qa_format.specs.declared.form.Form.TheVariants.{Json, Text}

none_before : (ls : List (List ℕ)) → rows_before 0 ls ≡ []
none_before ls = ap rows_text (last_of_none 0 (rows ls) refl)

none_behind : (form : Form) (outcome : Outcome) (ls : List (List ℕ)) → behind form outcome 0 ls ≡ []
none_behind Text Accepted ls = refl
none_behind Text Refused ls = none_before ls
none_behind Text Unreadable ls = none_before ls
none_behind Json Accepted ls = refl
none_behind Json Refused ls = refl
none_behind Json Unreadable ls = refl

pub around_none : (form : Form) (name bytes : List ℕ) → around_told 0 form name bytes ≡ why_by (strict reading) form name bytes ++ rest_behind each form (outcome_by bytes) (good_lines (strict reading) bytes)
unfolding around_told
around_none form name bytes =
    let told = why_by (strict reading) form name bytes ++ rest_behind each form (outcome_by bytes) (good_lines (strict reading) bytes) in
    ap (λ rows. told ++ rows) (none_behind form (outcome_by bytes) (good_lines (strict reading) bytes)) ∙ append-nil told

-- a verdict that is not accepted rests on nothing
no_rest : (form : Form) (outcome : Outcome) (ls : List (List ℕ)) → outcome ≢ Accepted → rest_behind each form outcome ls ≡ []
no_rest form Accepted ls not = absurd (not refl)
no_rest form Refused ls not = refl
no_rest form Unreadable ls not = refl

pub around_of_others : (form : Form) (name bytes : List ℕ) → outcome_by bytes ≢ Accepted → around_text 0 form name bytes ≡ why form name bytes
around_of_others form name bytes not =
    ap (whole form name)
    (around_none form name bytes
    ∙ (ap (λ rest. why_by (strict reading) form name bytes ++ rest) (no_rest form (outcome_by bytes) (good_lines (strict reading) bytes) not)
    ∙ append-nil (why_by (strict reading) form name bytes)))
