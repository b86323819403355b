-- What was written of a page, which has the line of a file and its report.
use Rattle.std.proofs.Common.{◌≡◌, ◌∙◌, ◌-◌, ◌⊎◌, inl, inr, ℕ, true, List, [], ◌++◌, Option, Some, None, Ok, Err, length, take, arith, refl, sym, ap, subst, append_assoc}
use Rattle.std.proofs.Math.Seq.{take-append-add}
use Rattle.std.proofs.lemmas.List.{take-append-le}
use Rattle.std.proofs.lemmas.Bool.{cases_lt}
use Rattle.std.specs.Borrow.{Bor}
use Rattle.std.specs.Io.KnownBytes.{Appends}
use Rattle.qa_format.specs.format.Reading.{reading}
use Rattle.qa_format.specs.verdicts.Report.{report}
use Rattle.qa_format.specs.verdicts.Verdict.{strict, verdict}
use Rattle.qa_check.proofs.Writing.{begins_taken}
use Rattle.qa_check.specs.Audit.{outcome_of}
use Rattle.qa_check.specs.declared.auditing.Outcome.{Outcome}
use Rattle.qa_commands.specs.Checking.{Checks, ReportsFile, heading}
use Rattle.qa_commands.specs.declared.ending.Failure.{Failure}
use Rattle.qa_commands.specs.declared.ending.Failure.TheVariants.{Read, Write, OutOfMemory}
use Rattle.qa_commands.specs.declared.ending.Origin.TheVariants.{File}

report_of : List ℕ → List ℕ
report_of bytes = report (verdict (strict reading) bytes)

-- what was written once the front of a text was
behind : Option (List ℕ) → List ℕ → Option (List ℕ)
behind None front = None
behind (Some held) front = Some (held ++ front)

appends_front : (old : Option (List ℕ)) (front : List ℕ) → Appends old (behind old front) front
unfolding behind
appends_front None front = tt
appends_front (Some held) front = refl

appends_rest : (old new : Option (List ℕ)) (front rest : List ℕ) → Appends old new (front ++ rest) → Appends (behind old front) new rest
unfolding behind
appends_rest None new front rest written = tt
appends_rest (Some held) None front rest written = absurd written
appends_rest (Some held) (Some now) front rest written = written ∙ sym (append_assoc held front rest)

-- a page is the line and the report
page_parts : (name : List ℕ) (outcome : Outcome) (page : List ℕ) → ReportsFile name outcome (Some []) (Some page)
    → (bytes : List ℕ) × (page ≡ heading name ++ report_of bytes) × (outcome ≡ outcome_of (verdict (strict reading) bytes))
unfolding report_of
page_parts name outcome page (None, headed, bytes, reports) = absurd headed
page_parts name outcome page (Some line, headed, bytes, reports) = (bytes, reports.0 ∙ ap (λ l. l ++ report_of bytes) headed, reports.1)

module _ (name : Bor (List ℕ)) (outcome : Outcome) (page : List ℕ) (old new : Option (List ℕ)) (on : ReportsFile name.now outcome (Some []) (Some page)) where
  -- all of a page was written
  pub page_written : Appends old new page → Checks true name (Ok outcome) old new
  unfolding report_of
  page_written written =
      let parts = page_parts name.now outcome page on in
      let line = heading name.now in
      let all : Appends old new (line ++ report_of parts.0) = subst (λ text. Appends old new text) parts.1 written in
      inr (behind old line, appends_front old line, (parts.0, tt, (appends_rest old new line (report_of parts.0) all, parts.2)))

  -- a beginning of it was
  pub page_begun : (n : ℕ) × Appends old new (take n page) → Checks true name (Err Write) old new
  unfolding report_of
  page_begun (n, written) =
      let parts = page_parts name.now outcome page on in
      let line = heading name.now in
      let said = report_of parts.0 in
      let some : Appends old new (take n (line ++ said)) = subst (λ text. Appends old new (take n text)) parts.1 written in
      elim (cases_lt (length line) n) [
        | inl long ↦
            let more : ℕ = n - length line in
            let parted : take n (line ++ said) ≡ line ++ take more said = ap (λ k. take k (line ++ said)) (omega (arith, long)) ∙ take-append-add line said more in
            inr (behind old line, appends_front old line, (parts.0, tt, (more, appends_rest old new line (take more said) (subst (λ text. Appends old new text) parted some))))
        | inr short ↦ inl (begins_taken old new line (n, subst (λ text. Appends old new text) (take-append-le n line said short) some))
      ]

-- the line was written alone
pub headed_alone : (name : Bor (List ℕ)) (failure : Failure) (old new : Option (List ℕ)) → (failure ≡ Read (File name)) ⊎ (failure ≡ OutOfMemory) → Appends old new (heading name.now)
    → Checks true name (Err failure) old new
headed_alone name failure old new (inl is) headed = rw is (inr (new, headed, (refl, refl)))
headed_alone name failure old new (inr is) headed = rw is (inr (new, headed, refl))
