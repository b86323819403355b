-- How records are taken, and what is left of a log once a record that was lent is no longer
-- borrowed.
use Rattle.std.specs.Prelude.{◌≡◌, ◌≢◌, ◌<◌, ◌+◌, ◌++◌, ℕ, Bool, true, false, List, [], ◌∷◌, length}
use Rattle.std.specs.Prelude.{take, drop, min, Option, Some, None, Result, Ok, Err, IfSome, IfNone}
use Rattle.std.specs.Prelude.{IfOk, IfErr, OnOk}
use Rattle.std.specs.Borrow.{Fml, MutBor}
use Rattle.std.specs.Io.BufRead.{Rests}
use Rattle.qa_qlog.specs.contracts.cutter.DocumentCutter.{the_row}
use Rattle.qa_qlog.specs.declared.cutter.CutFault.{CutFault}
use Rattle.qa_qlog.specs.declared.cutter.CutFault.TheVariants as cause
use Rattle.qa_qlog.specs.declared.cutter.Record.{Record}
use Rattle.qa_qlog.specs.declared.outer.Extent.{Extent}
use Rattle.qa_qlog.specs.Outer.{last}
use Rattle.qa_qlog.specs.declared.cutter.Step.{Step}
use Rattle.qa_qlog.specs.declared.cutter.Step.TheVariants.{Found, Going, Waits}
use Rattle.qa_qlog.specs.Cuts.{Cut, Cuts, State, Turn, Goes, Gives, Stops, cut_of, cuts, emptied}
use Rattle.qa_qlog.specs.Cuts.{Uncut, put}

-- what is left to be returned, if more bytes come
abbrev pub left : Uncut → List ℕ → Cuts
left log more = cuts log.state (log.bytes ++ more)

-- both have the same left
pub record Keeps (old new : Uncut) : Type 0 where
  pub left : (more : List ℕ) → left old more ≡ left new more
  pub refused : new.refused ≡ old.refused

-- the new log is the old without its first record
pub record Takes (old : Uncut) (cut : Cut) (new : Uncut) : Type 0 where
  pub left : (more : List ℕ) → left old more ≡ put cut (left new more)
  pub refused : new.refused ≡ old.refused

-- all bytes that were fed were read, and no record is ready
pub record Lacks (old new : Uncut) : Type 0 where
  pub keeps : Keeps old new
  pub none : new.bytes ≡ []

-- it fails with this, which stands in the log unless it is out of memory
pub record Fails (old : Uncut) (fault : CutFault) (new : Uncut) : Type 0 where
  pub why : fault ≢ cause.OutOfMemory → (more : List ℕ) → left old more ≡ ([], Err fault)
  pub now : new.refused ≡ Some fault

-- what failed before fails again, and stays as it was
abbrev pub StaysFailed : {T : Type 0} → Uncut → Result T CutFault → Uncut → Type 0
StaysFailed old result new =
    IfSome old.refused (λ fault. (result ≡ Err fault) × (new ≡ old))

-- a call that was asked for the next record returned this, and left the new log of the old
pub record Moves (old : Uncut) (result : Result (Option Record) CutFault) (new : Uncut)
    : Type 0 where
  pub refused : StaysFailed old result new
  pub record_taken : IfOk result (λ found. IfSome found (λ it.
      Takes old (record { trace = it.trace; place = it.place; bytes = it.bytes.now }) new))
  pub none : IfOk result (λ found. IfNone found (Lacks old new))
  pub whole : OnOk result (new.refused ≡ None)
  pub err : old.refused ≡ None → IfErr result (λ fault. Fails old fault new)

abbrev pub EndsAs : MutBor Uncut → Result (Option Record) CutFault → Fml
EndsAs log result = Rests the_row log (Moves log.now result)

-- ---- single bytes

-- the byte is the next
abbrev pub IsNext : ℕ → Uncut → Type 0
IsNext b log = log.bytes ≡ b ∷ drop 1 log.bytes

abbrev pub failed : Uncut → CutFault → Uncut
failed log fault = record log { refused = Some fault }

-- the next n bytes were read
abbrev pub passed_by : Uncut → ℕ → State → Uncut
passed_by log n s = record log { state = s; bytes = drop n log.bytes }

-- the next byte was read
abbrev pub passed : Uncut → State → Uncut
passed log s = passed_by log 1 s

-- what was read with as many of the next bytes, of a record
abbrev pub read_to : State → Extent → List ℕ → State
read_to s e bytes = record s {
  position = e.position;
  at = min last (s.at + e.len);
  text = s.text ++ take e.len bytes;
}

abbrev pub read_log : Uncut → Extent → Uncut
read_log log e = passed_by log e.len (read_to log.state e log.bytes)

-- the next byte did this
abbrev pub Turns : Turn → Uncut → Result Step CutFault → Uncut → Type 0
Turns turn old (Ok Going) new = (s : State) × (turn ≡ Goes s) × (new ≡ passed old s)
Turns turn old (Ok Found) new = (s : State) × (turn ≡ Gives s) × (new ≡ passed old s)
Turns turn old (Ok Waits) new = ⊥
Turns turn old (Err fault) new =
    (fault ≢ cause.OutOfMemory → turn ≡ Stops fault) × (new ≡ failed old fault)

-- the log without the record that was read
abbrev pub without : Uncut → Uncut
without log = record log { state = emptied log.state }

-- a record was read to its end
abbrev pub IsFound : Uncut → Uncut → Type 0
IsFound old new = Takes old (cut_of new.state) (without new)

-- a call that was to read on did this
abbrev pub Reads : Uncut → Result Step CutFault → Uncut → Type 0
Reads old (Ok Going) new = Keeps old new × (length new.bytes < length old.bytes)
Reads old (Ok Found) new = IsFound old new
Reads old (Ok Waits) new = Lacks old new
Reads old (Err fault) new = Fails old fault new

-- a call that was to find the next record did this
pub record Finds (old : Uncut) (result : Result Bool CutFault) (new : Uncut) : Type 0 where
  pub refused : StaysFailed old result new
  pub found : result ≡ Ok true → IsFound old new
  pub none : result ≡ Ok false → Lacks old new
  pub whole : OnOk result (new.refused ≡ None)
  pub err : old.refused ≡ None → IfErr result (λ fault. Fails old fault new)
