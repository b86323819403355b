-- What a walk wrote that tells of each line.
use Rattle.std.proofs.Common.{◌≡◌, ◌∙◌, ℕ, List, [], ◌∷◌, ◌++◌, false, inl, inr, Option, Ok, Err, take, append_assoc, refl, sym, ap, ap₂}
use Rattle.std.specs.Prelude.{⊤}
use Rattle.std.proofs.lemmas.List.{append-nil}
use Rattle.std.proofs.KnownBytes.{Appends-nil, Appends-trans}
use Rattle.std.specs.Io.KnownBytes.{Appends}
use Rattle.qa_base.specs.declared.event.Event.{Event}
use Rattle.qa_base.specs.machine.Packets.{history_of}
use Rattle.qa_base.specs.values.Settings.{Settings}
use Rattle.qa_check.proofs.Judged.{told_of_good}
use Rattle.qa_check.proofs.Writing.{begins_behind, begins_longer, begins_taken, told_begin_at}
use Rattle.qa_check.specs.Audit.{ReadsEnoughBy, is_write_fault}
use Rattle.qa_check.specs.declared.auditing.AuditFault.{AuditFault}
use Rattle.qa_check.specs.declared.auditing.AuditFault.TheVariants as audits
use Rattle.qa_check.specs.Failures.{failures_after}
use Rattle.qa_check.specs.Places.{good_lines}
use Rattle.qa_check.specs.Standing.{HoldsRun, Judges, by}
use Rattle.qa_check.specs.Telling.{FailsTelling, Tells}
use Rattle.qa_check.specs.Visiting.{ComesAfter}
use Rattle.qa_check.specs.Walking.{LeftIn}
use Rattle.qa_check.specs.Writing.{Begins, BeginsToldRead, JudgesShown, WritesBut}
use Rattle.qa_format.proofs.verdicts.Rows.{told_begin, told_of-snoc}
use Rattle.qa_format.specs.declared.line.Line.{Line}
use Rattle.qa_format.specs.format.Lines.{ended_lines, lines}
use Rattle.qa_format.specs.format.Reading.{reading}
use Rattle.qa_format.specs.verdicts.Explain.{Telling, told, told_line, told_of, told_said}
use Rattle.qa_format.specs.verdicts.Verdict.{Judging, events_in, header_in, verdict}
use Rattle.qa_format.specs.declared.verdict.Verdict.{Verdict}

-- ---- a line

-- a text is what is told of it
text_of_line : {J : Type 0} (judges : Judges J) (tell : Telling) (n : ℕ) (judge : Option J) (ls : List (List ℕ)) (l text : List ℕ) (said : Line) → ComesAfter judges n judge ls l → reading l ≡ Ok said
    → ((header : Option Settings) (h : List Event) → HoldsRun judges judge header h → text ≡ told_said tell n (Ok said) header h) → text ≡ told_line tell (by judges) ls l
text_of_line judges tell n judge ls l text said (count, good, holds) is told =
    let same : told_said tell n (Ok said) (header_in reading (ls ++ l ∷ [])) (history_of (events_in reading (ls ++ l ∷ []))) ≡ told_line tell (by judges) ls l = rw (count, is) refl in
    told _ _ holds ∙ same

-- its row was made, and waits behind those that wait
pub tells_line : {J : Type 0} (judges : Judges J) (tell : Telling) (k k' n : ℕ) (start now : Option (List ℕ)) (judge : Option J) (ls : List (List ℕ)) (l text waiting waiting' : List ℕ) (said : Line)
    → Tells tell (by judges) k k' start now waiting ls → ComesAfter judges n judge ls l → reading l ≡ Ok said
    → ((header : Option Settings) (h : List Event) → HoldsRun judges judge header h → text ≡ told_said tell n (Ok said) header h) → waiting' ≡ waiting ++ text
    → Tells tell (by judges) k k' start now waiting' (ls ++ l ∷ [])
tells_line judges tell k k' n start now judge ls l text waiting waiting' said before after is told_so longer =
    let front = before.1.0 in
    let here : told_line tell (by judges) ls l ≡ text = sym (text_of_line judges tell n judge ls l text said after is told_so) in
    let all : told_of tell (by judges) (ls ++ l ∷ []) ≡ front ++ (waiting ++ text) =
    told_of-snoc tell (by judges) ls l after.1 ∙ (ap₂ (λ (x : List ℕ) (y : List ℕ). x ++ y) before.1.1 here ∙ append_assoc front waiting text) in
    (before.0, (front, rw longer all, before.1.2))

-- a beginning was written of what was made
pub tells_begin : (tell : Telling) (judging : Judging) (k k' : ℕ) (start now : Option (List ℕ)) (waiting : List ℕ) (ls : List (List ℕ)) → Tells tell judging k k' start now waiting ls → Begins start now (told_of tell judging ls)
tells_begin tell judging k k' start now waiting ls before = (before.1.0, waiting, before.1.1, before.1.2)

-- it was not made, for want of memory
pub unmade_line : (tell : Telling) (judging : Judging) (k k' : ℕ) (start now : Option (List ℕ)) (waiting : List ℕ) (ls : List (List ℕ)) (l : List ℕ)
    → Tells tell judging k k' start now waiting ls → FailsTelling tell judging k k' start now waiting (ls ++ l ∷ []) audits.OutOfMemory
unmade_line tell judging k k' start now waiting ls l before =
    let longer = told_begin tell judging ls (l ∷ []) in
    (before.0, (told_of tell judging ls, longer.0, longer.1, before.1))

-- ---- what waits

-- all of it was written
pub tells_flushed : (tell : Telling) (judging : Judging) (k k' k'' : ℕ) (start a b : Option (List ℕ)) (waiting waiting' : List ℕ) (ls : List (List ℕ))
    → k'' ≡ k' → Appends a b waiting → waiting' ≡ [] → Tells tell judging k k' start a waiting ls → Tells tell judging k k'' start b waiting' ls
tells_flushed tell judging k k' k'' start a b waiting waiting' ls same written none before =
    let front = before.1.0 in
    let all : told_of tell judging ls ≡ (front ++ waiting) ++ waiting' = before.1.1 ∙ (sym (append-nil (front ++ waiting)) ∙ ap (λ x. (front ++ waiting) ++ x) (sym none)) in
    (same ∙ before.0, (front ++ waiting, all, Appends-trans start a b front waiting before.1.2 written))

-- a beginning of it was
pub waits_begin : (start a b : Option (List ℕ)) (waiting text : List ℕ) → WritesBut start a waiting text → Begins a b waiting → Begins start b text
waits_begin start a b waiting text (front, parts, before) begun = rw parts (begins_behind start a b front waiting before begun)

pub fails_flushing : (tell : Telling) (judging : Judging) (k k' k'' : ℕ) (start a b : Option (List ℕ)) (waiting waiting' : List ℕ) (ls : List (List ℕ)) (fault : AuditFault)
    → fault ≡ audits.Write → k'' ≡ failures_after (is_write_fault {A = ⊤} (Err fault)) k' → (n : ℕ) × Appends a b (take n waiting) → Tells tell judging k k' start a waiting ls
    → FailsTelling tell judging k k'' start b waiting' ls fault
fails_flushing tell judging k k' k'' start a b waiting waiting' ls audits.Write is count begun before =
    (rw before.0 at count, waits_begin start a b waiting (told_of tell judging ls) before.1 (begins_taken a b waiting begun))
fails_flushing tell judging k k' k'' start a b waiting waiting' ls audits.Read is count begun before = cc
fails_flushing tell judging k k' k'' start a b waiting waiting' ls audits.OutOfMemory is count begun before = cc

-- after it was out of memory at a line
pub unmade_begin : (tell : Telling) (judging : Judging) (k k' : ℕ) (start a b : Option (List ℕ)) (waiting : List ℕ) (ls : List (List ℕ))
    → FailsTelling tell judging k k' start a waiting ls audits.OutOfMemory → Begins a b waiting → Begins start b (told_of tell judging ls)
unmade_begin tell judging k k' start a b waiting ls failed begun =
    let made = failed.1.0 in
    begins_longer start b made (told_of tell judging ls) failed.1.1 failed.1.2 (waits_begin start a b waiting made failed.1.3 begun)

-- where nothing waits, all was written that is told
pub tells_all : (tell : Telling) (judging : Judging) (k k' : ℕ) (start now : Option (List ℕ)) (waiting : List ℕ) (ls : List (List ℕ)) → waiting ≡ [] → Tells tell judging k k' start now waiting ls → Appends start now (told_of tell judging ls)
tells_all tell judging k k' start now waiting ls none before =
    let front = before.1.0 in
    let same : told_of tell judging ls ≡ front = before.1.1 ∙ (ap (λ x. front ++ x) none ∙ append-nil front) in
    rw same before.1.2

-- ---- a walk

-- to a verdict
pub tells_ended : {last : ℕ} (judging : Judging) (tell : Telling) (old new held held' : Option (List ℕ)) (k k' : ℕ) (waiting : List ℕ) (v : Verdict) (bytes : List ℕ) → ReadsEnoughBy judging old new last bytes → v ≡ verdict judging bytes
    → waiting ≡ [] → Tells tell judging k k' held held' waiting (good_lines judging bytes) → JudgesShown judging tell old new last held held' v
tells_ended judging tell old new held held' k k' waiting v bytes enough is none told_so =
    (bytes, enough, is, rw (told_of_good tell judging bytes) at (tells_all tell judging k k' held held' waiting (good_lines judging bytes) none told_so))

-- before any line
pub tells_none : (tell : Telling) (judging : Judging) (k : ℕ) (held : Option (List ℕ)) (waiting : List ℕ) → waiting ≡ [] → Tells tell judging k k held held waiting []
unfolding told_of
tells_none tell judging k held waiting none = (refl, ([], sym none, Appends-nil held))

pub begins_left : {last : ℕ} (judging : Judging) (tell : Telling) (old new held held' : Option (List ℕ)) (P : List (List ℕ) → Type 0) → ((ls : List (List ℕ)) → P ls → Begins held held' (told_of tell judging ls))
    → LeftIn judging old new last P → BeginsToldRead judging tell old new last held held' (told tell judging)
begins_left judging tell old new held held' P begins (bytes, consumes, further, ls, more, p, place) = (
  bytes,
  consumes,
  further,
  elim place [
    | inl ended ↦ inl (told_begin_at judging tell held held' ls more (ended_lines bytes) ended (begins ls p))
    | inr all ↦ inr (all.0, told_begin_at judging tell held held' ls more (lines bytes) all.1 (begins ls p))
  ],
)
