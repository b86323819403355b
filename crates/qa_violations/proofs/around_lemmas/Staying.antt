-- What is told stays, whatever follows bytes that fix their verdict.
use Rattle.std.proofs.Common.{◌≡◌, ◌∙◌, ◌++◌, ℕ, List, Option, Some, ap, ap₂}
use Rattle.qa_violations.specs.allowed.Lines.{each}
use Rattle.qa_violations.specs.allowed.Rests.{rest_behind}
use Rattle.qa_violations.specs.around.Around.{around_told, behind, outcome_by}
use Rattle.qa_check.specs.Audit.{ReadsEnoughBy, outcome_of}
use Rattle.qa_check.specs.declared.auditing.Outcome.{Outcome}
use Rattle.qa_format.proofs.verdicts.Fixed.{fixed_stays}
use Rattle.qa_format.specs.format.Reading.{reading}
use Rattle.qa_format.specs.verdicts.Verdict.{IsFixed, strict}
use Rattle.qa_why.proofs.Told.{good_stays, told_alike, why_stays}
use Rattle.qa_why.specs.Why.{good_lines, why_by}
use Rattle.qa_format.specs.declared.form.Form.{Form}

around_stays : (count : ℕ) (form : Form) (name f g : List ℕ) → IsFixed (strict reading) f → around_told count form name (f ++ g) ≡ around_told count form name f
unfolding around_told
around_stays count form name f g fixed =
    ap (λ (ls : List (List ℕ)). why_by (strict reading) form name (f ++ g) ++ rest_behind each form (outcome_by (f ++ g)) ls ++ behind form (outcome_by (f ++ g)) count ls) (good_stays (strict reading) f g fixed)
    ∙ ap₂ (λ (text : List ℕ) (outcome : Outcome). text ++ rest_behind each form outcome (good_lines (strict reading) f) ++ behind form outcome count (good_lines (strict reading) f)) (why_stays (strict reading) form name f g fixed) (ap outcome_of (fixed_stays (strict reading) f g fixed))

-- what was read is told of as all the bytes that a reader tells
pub told_around : {last : ℕ} (count : ℕ) (form : Form) (name : List ℕ) (old new : Option (List ℕ)) (read bytes : List ℕ) → old ≡ Some bytes → ReadsEnoughBy (strict reading) old new last read
    → around_told count form name bytes ≡ around_told count form name read
told_around count form name old new read bytes tells enough = told_alike (strict reading) (around_told count form name) (around_stays count form name) old new read bytes tells enough
