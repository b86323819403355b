-- What lines and pieces do to what was written of them.
use Rattle.std.proofs.Common.{◌≡◌, ◌∙◌, ℕ, List, [], ◌++◌, take, drop, ◌⊎◌, inl, inr, Option, Some, None, Result, Ok, Err, OnErr, append_assoc, take-append-drop, refl, sym, ap}
use Rattle.std.proofs.lemmas.List.{append-nil}
use Rattle.std.proofs.KnownBytes.{Appends-trans}
use Rattle.std.specs.Io.KnownBytes.{Appends, Consumes, IsAtEnd}
use Rattle.qa_format.specs.declared.verdict.Verdict.{Verdict}
use Rattle.qa_format.specs.format.Reading.{reading}
use Rattle.qa_format.specs.verdicts.Explain.{Telling, told_of, row_said, rows, explain}
use Rattle.qa_format.specs.verdicts.Report.{report}
use Rattle.qa_format.specs.verdicts.Verdict.{Judging, strict, verdict, IsFixed}
use Rattle.qa_format.proofs.verdicts.Rows.{told_begin, explanation_begins, explanation_stays}
use Rattle.qa_check.specs.declared.auditing.Outcome.{Outcome}
use Rattle.qa_check.specs.Audit.{ReadsEnough, outcome_of}
use Rattle.qa_check.proofs.Reading.{told_verdict}
use Rattle.qa_check.specs.Writing.{Begins, BeginsRead, Explains, JudgesShown, told_ended}

-- ---- beginnings of texts

pub begins_all : (a b : Option (List ℕ)) (text : List ℕ) → Appends a b text → Begins a b text
begins_all a b text written = (text, [], sym (append-nil text), written)

-- a number of bytes was written
pub begins_taken : (a b : Option (List ℕ)) (text : List ℕ) → (n : ℕ) × Appends a b (take n text) → Begins a b text
begins_taken a b text (n, written) = (take n text, drop n text, sym (take-append-drop n text), written)

-- behind a text that was written
pub begins_behind : (a b c : Option (List ℕ)) (front text : List ℕ) → Appends a b front → Begins b c text → Begins a c (front ++ text)
begins_behind a b c front text before (begun, rest, parts, written) =
    (front ++ begun, rest, ap (λ k. front ++ k) parts ∙ sym (append_assoc front begun rest), Appends-trans a b c front begun before written)

-- of a text that goes on
pub begins_longer : (a b : Option (List ℕ)) (text longer more : List ℕ) → longer ≡ text ++ more → Begins a b text → Begins a b longer
begins_longer a b text longer more is (begun, rest, parts, written) =
    (begun, rest ++ more, is ∙ (ap (λ k. k ++ more) parts ∙ append_assoc begun rest more), written)

-- ---- lines

pub told_begin_at : (judging : Judging) (tell : Telling) (start now : Option (List ℕ)) (ls more all : List (List ℕ)) → all ≡ ls ++ more → Begins start now (told_of tell judging ls) → Begins start now (told_of tell judging all)
told_begin_at judging tell start now ls more all is begun =
    let longer = told_begin tell judging ls more in
    begins_longer start now _ _ longer.0 (ap (told_of tell judging) is ∙ longer.1) begun

-- ---- what was read

-- what explains what was read explains all the bytes that a reader tells
pub told_explanation : (old new : Option (List ℕ)) (read bytes : List ℕ) → old ≡ Some bytes → Consumes old new read → IsAtEnd new ⊎ IsFixed (strict reading) read
    → explain (strict reading) bytes ≡ explain (strict reading) read
told_explanation (Some xs) (Some ys) read bytes tells consumes enough =
    let all : bytes ≡ read ++ ys = cc in
    elim enough [
      | inl end ↦ ap (explain (strict reading)) (all ∙ (ap (λ k. read ++ k) end ∙ append-nil read))
      | inr fixed ↦ ap (explain (strict reading)) all ∙ explanation_stays (strict reading) read ys fixed
    ]
told_explanation (Some xs) None read bytes tells consumes enough = elim consumes [ ]
told_explanation None new read bytes tells consumes enough = cc

told_rows : (old new : Option (List ℕ)) (read bytes : List ℕ) → old ≡ Some bytes → Consumes old new read
    → (rest : List ℕ) × (explain (strict reading) bytes ≡ told_ended (strict reading) row_said read ++ rest)
told_rows (Some xs) (Some ys) read bytes tells consumes =
    let all : bytes ≡ read ++ ys = cc in
    rw all (explanation_begins (strict reading) read ys)
told_rows (Some xs) None read bytes tells consumes = elim consumes [ ]
told_rows None new read bytes tells consumes = cc

-- what was begun of what was read is a beginning of what explains all the bytes that a reader tells
pub told_begins : {last : ℕ} (old new held held' : Option (List ℕ)) (bytes : List ℕ) → old ≡ Some bytes → BeginsRead old new last held held' (explain (strict reading))
    → Begins held held' (explain (strict reading) bytes)
told_begins old new held held' bytes tells (read, consumes, further, begun) = elim begun [
  | inl ended ↦ let more = told_rows old new read bytes tells consumes in begins_longer held held' _ _ more.0 more.1 ended
  | inr all ↦ rw (told_explanation old new read bytes tells consumes all.0) all.1
]

-- the rows begin what explains the bytes
pub rows_explain : {last : ℕ} (old new held held' : Option (List ℕ)) → BeginsRead old new last held held' (rows (strict reading)) → BeginsRead old new last held held' (explain (strict reading))
rows_explain old new held held' (read, consumes, further, begun) = (
  read,
  consumes,
  further,
  elim begun [
    | inl ended ↦ inl ended
    | inr all ↦ inr (all.0, begins_longer held held' _ _ (report (verdict (strict reading) read)) refl all.1)
  ],
)

-- ---- results

pub on_err_of : {T E P : Type 0} (r : Result T E) → P → OnErr r P
on_err_of (Ok x) p = tt
on_err_of (Err e) p = p

-- ---- the rows and the report

-- what was read and is all that counts was explained
abbrev pub ExplainsRead : Option (List ℕ) → Option (List ℕ) → ℕ → Option (List ℕ) → Option (List ℕ) → Outcome → Type 0
ExplainsRead old new last held held' o = (read : List ℕ) × ReadsEnough old new last read × Explains held held' o read

-- the report was written behind the rows
pub explained : {last : ℕ} (old new held mid held' : Option (List ℕ)) (v : Verdict) (o : Outcome) → JudgesShown (strict reading) row_said old new last held mid v
    → Appends mid held' (report v) → o ≡ outcome_of v → ExplainsRead old new last held held' o
explained old new held mid held' v o (read, enough, is, written) report_written told =
    let all : Appends held held' (rows (strict reading) read ++ report v) = Appends-trans held mid held' _ _ written report_written in
    (read, enough, (rw is at all, rw (← is) told))

-- what explains what was read explains all the bytes that a reader tells
pub told_explained : {last : ℕ} (old new held held' : Option (List ℕ)) (o : Outcome) (bytes : List ℕ) → old ≡ Some bytes
    → ExplainsRead old new last held held' o → Explains held held' o bytes
told_explained old new held held' o bytes tells (read, enough, explains) =
    (rw (told_explanation old new read bytes tells enough.0 enough.1) explains.0, rw (told_verdict old new read bytes tells enough) explains.1)

-- it was begun
pub report_begun : {last : ℕ} (old new held mid held' : Option (List ℕ)) (v : Verdict) → JudgesShown (strict reading) row_said old new last held mid v → (n : ℕ) × Appends mid held' (take n (report v))
    → BeginsRead old new last held held' (explain (strict reading))
report_begun old new held mid held' v (read, enough, is, written) begun =
    let text : Begins held held' (rows (strict reading) read ++ report v) = begins_behind held mid held' _ _ written (begins_taken mid held' (report v) begun) in
    let known : Begins held held' (explain (strict reading) read) = rw is at text in
    (read, enough.0, enough.2, inr (enough.1, known))

-- it was not
pub rows_written : {last : ℕ} (old new held held' : Option (List ℕ)) (v : Verdict) → JudgesShown (strict reading) row_said old new last held held' v → BeginsRead old new last held held' (rows (strict reading))
rows_written old new held held' v (read, enough, is, written) = (read, enough.0, enough.2, inr (enough.1, begins_all held held' _ written))
