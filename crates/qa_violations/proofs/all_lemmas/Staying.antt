-- What is told of all violations stays, whatever follows bytes that fix how a trace ends.
use Rattle.std.proofs.Common.{◌≡◌, ◌∙◌, ◌++◌, ℕ, List, Option, Some, ap, ap₂}
use Rattle.qa_violations.specs.all.Tolerating.{unviolated}
use Rattle.qa_violations.specs.allowed.Rests.{is_strict}
use Rattle.qa_violations.specs.all.All.{all_outcome, all_strict, tolerated_run_in, outcome_with, past_sender_rules, told_by}
use Rattle.qa_violations.specs.all.Violated.{all_violated, findings}
use Rattle.qa_check.specs.Audit.{ReadsEnoughBy, outcome_of}
use Rattle.qa_check.specs.declared.auditing.Outcome.{Outcome}
use Rattle.qa_format.proofs.verdicts.Fixed.{fixed_stays}
use Rattle.qa_format.specs.verdicts.Verdict.{IsFixed, verdict}
use Rattle.qa_why.proofs.Told.{good_stays, told_alike, why_stays}
use Rattle.qa_why.specs.Why.{good_lines, why_by}
use Rattle.qa_format.specs.declared.form.Form.{Form}

text_stays : (count : ℕ) (form : Form) (name f g : List ℕ) → IsFixed past_sender_rules f → told_by count form name (f ++ g) ≡ told_by count form name f
unfolding told_by
text_stays count form name f g fixed =
    ap (λ (ls : List (List ℕ)). tolerated_run_in count form name ls (outcome_of (verdict past_sender_rules (f ++ g))) (why_by past_sender_rules form name (f ++ g))) (good_stays past_sender_rules f g fixed)
    ∙ ap₂ (tolerated_run_in count form name (good_lines past_sender_rules f)) (ap outcome_of (fixed_stays past_sender_rules f g fixed)) (why_stays past_sender_rules form name f g fixed)

outcome_stays : (f g : List ℕ) → IsFixed past_sender_rules f → all_outcome (f ++ g) ≡ all_outcome f
unfolding all_outcome
outcome_stays f g fixed =
    ap₂ (λ (ls : List (List ℕ)) (outcome : Outcome). outcome_with (findings (all_violated ls)) outcome) (good_stays past_sender_rules f g fixed) (ap outcome_of (fixed_stays past_sender_rules f g fixed))

strict_stays : (f g : List ℕ) → IsFixed past_sender_rules f → all_strict (f ++ g) ≡ all_strict f
unfolding all_strict
strict_stays f g fixed = ap (is_strict unviolated) (good_stays past_sender_rules f g fixed)

-- what was read is told of as all the bytes that a reader tells
pub told_text : {last : ℕ} (count : ℕ) (form : Form) (name : List ℕ) (old new : Option (List ℕ)) (read bytes : List ℕ) → old ≡ Some bytes → ReadsEnoughBy past_sender_rules old new last read → told_by count form name bytes ≡ told_by count form name read
told_text count form name old new read bytes tells enough = told_alike past_sender_rules (told_by count form name) (text_stays count form name) old new read bytes tells enough

pub told_outcome : {last : ℕ} (old new : Option (List ℕ)) (read bytes : List ℕ) → old ≡ Some bytes → ReadsEnoughBy past_sender_rules old new last read → all_outcome bytes ≡ all_outcome read
told_outcome old new read bytes tells enough = told_alike past_sender_rules all_outcome outcome_stays old new read bytes tells enough

pub told_strict : {last : ℕ} (old new : Option (List ℕ)) (read bytes : List ℕ) → old ≡ Some bytes → ReadsEnoughBy past_sender_rules old new last read → all_strict bytes ≡ all_strict read
told_strict old new read bytes tells enough = told_alike past_sender_rules all_strict strict_stays old new read bytes tells enough
