-- How texts are taken, and what is left of a log once a text that was lent is no longer borrowed.
use Rattle.std.specs.Prelude.{◌≡◌, ◌≤◌, ℕ, true, false, List, [], length, take, drop, Option, Some}
use Rattle.std.specs.Prelude.{None}
use Rattle.std.specs.Prelude.{Result, Err, IfSome, IfNone, IfOk, IfErr}
use Rattle.std.specs.Borrow.{Fml, MutBor}
use Rattle.std.specs.Io.BufRead.{Rests}
use Rattle.qa_cut.specs.Cuts.{HasNoPiece, IsPlace}
use Rattle.qa_cut.specs.declared.cutter.SplitFault.{SplitFault}
use Rattle.qa_cut.specs.declared.cutter.SplitFault.TheVariants as split
use Rattle.qa_qlog.specs.declared.texts.Found.{Found}
use Rattle.qa_qlog.specs.declared.texts.Text.{Text}
use Rattle.qa_qlog.specs.declared.texts.TextFault.{TextFault}
use Rattle.qa_qlog.specs.declared.texts.TextFault.TheVariants.{TooLong, OutOfMemory}
use Rattle.qa_qlog.specs.contracts.texts.Texts.{the_row}
use Rattle.qa_qlog.specs.Texts.{Numbered, Rest, put_text, is_blank, left}
use Rattle.qa_qlog.specs.Texts.{line_after, text_limit}

-- the fault of a log whose next text begins in line n
abbrev pub fault_at : ℕ → SplitFault → TextFault
fault_at n split.TooLong = TooLong n
fault_at n split.OutOfMemory = OutOfMemory

-- what may follow: nothing, once a log was closed
abbrev pub MayFollow : Rest → List ℕ → Type 0
MayFollow rest more = rest.uncut.closed ≡ true → more ≡ []

-- both have the same left
pub record Keeps (old new : Rest) : Type 0 where
  pub left : (more : List ℕ) → MayFollow old more → left old more ≡ left new more
  pub mark : new.uncut.mark ≡ old.uncut.mark
  pub closed : new.uncut.closed ≡ old.uncut.closed
  pub refused : new.uncut.refused ≡ old.uncut.refused

-- the new log is the old without its first text, and has not failed
pub record TakesText (old : Rest) (text : Numbered) (new : Rest) : Type 0 where
  pub left : (more : List ℕ) → MayFollow old more → left old more ≡ put_text text (left new more)
  pub mark : new.uncut.mark ≡ old.uncut.mark
  pub closed : new.uncut.closed ≡ old.uncut.closed
  pub whole : new.uncut.refused ≡ None

-- no text is ready, and none is left if the log was closed; it has not failed
pub record Lacks (old new : Rest) : Type 0 where
  pub keeps : Keeps old new
  pub none : HasNoPiece new.uncut
  pub whole : new.uncut.refused ≡ None

-- the next text is too long, and begins in line n
abbrev pub IsTooLong : Rest → TextFault → Type 0
IsTooLong old (TooLong n) =
    (more : List ℕ) → MayFollow old more → left old more ≡ ([], Some n)
IsTooLong old OutOfMemory = ⊥

-- it fails with this: as it did before, or since the next text is too long
pub record Fails (old : Rest) (fault : TextFault) (new : Rest) : Type 0 where
  pub why : old.uncut.refused ≡ None → IsTooLong old fault
  pub now : (it : SplitFault) × (new.uncut.refused ≡ Some it) × (fault ≡ fault_at new.line it)

-- what failed before fails again, and stays as it was
abbrev pub StaysFailed : {T : Type 0} → Rest → Result T TextFault → Rest → Type 0
StaysFailed old result new =
    IfSome old.uncut.refused (λ it. (result ≡ Err (fault_at old.line it)) × (new ≡ old))

-- a call that was asked for the next text returned this, and left the new log of the old
pub record Moves (old : Rest) (result : Result (Option Text) TextFault) (new : Rest)
    : Type 0 where
  pub refused : StaysFailed old result new
  pub text : IfOk result (λ found. IfSome found (λ text.
      TakesText old (record { line = text.line; bytes = text.bytes.now }) new))
  pub none : IfOk result (λ found. IfNone found (Lacks old new))
  pub err : IfErr result (λ fault. Fails old fault new)

abbrev pub EndsAs : MutBor Rest → Result (Option Text) TextFault → Fml
EndsAs texts result = Rests the_row texts (Moves texts.now result)

-- ---- places

-- what is at a place
pub record IsFoundAt (found : Found) (rest : Rest) : Type 0 where
  pub place : IsPlace rest.uncut found.place.len found.place.taken
  pub short : length (take found.place.len rest.uncut.bytes) ≤ text_limit
  pub blank : found.is_blank ≡ is_blank (take found.place.len rest.uncut.bytes)
  pub after : found.after
      ≡ line_after rest.uncut.mark rest.line (take found.place.len rest.uncut.bytes)

-- the log without the piece that was found there
abbrev pub passed : Rest → Found → Rest
passed rest found = record {
  uncut = record rest.uncut { bytes = drop found.place.taken rest.uncut.bytes };
  line = found.after;
}

-- a call that was asked for the next piece found this
pub record Finds (old : Rest) (result : Result (Option Found) TextFault) (new : Rest)
    : Type 0 where
  pub refused : StaysFailed old result new
  pub place : IfOk result (λ found. IfSome found (λ it. IsFoundAt it old × (new ≡ old)
      × (old.uncut.refused ≡ None)))
  pub none : IfOk result (λ found. IfNone found ((new ≡ old) × HasNoPiece old.uncut
      × (old.uncut.refused ≡ None)))
  pub err : IfErr result (λ fault. Fails old fault new)

-- a call that was asked for the next text found it, after blank pieces
pub record FindsText (old : Rest) (result : Result (Option Found) TextFault) (new : Rest)
    : Type 0 where
  pub refused : StaysFailed old result new
  pub place : IfOk result (λ found. IfSome found (λ it. IsFoundAt it new × Keeps old new
      × (it.is_blank ≡ false) × (new.uncut.refused ≡ None)))
  pub none : IfOk result (λ found. IfNone found (Lacks old new))
  pub err : IfErr result (λ fault. Fails old fault new)
