-- What a walk over the lines of a trace reads and leaves.
use Rattle.std.specs.Prelude.{◌≡◌, ◌⊎◌, ◌<◌, ◌++◌, [], ◌∷◌, ℕ, Bool, true, length, List}
use Rattle.std.specs.Prelude.{Option, Some, None, IfSome, false, Result, Ok, Err}
use Rattle.std.specs.Result.{result_ok}
use Rattle.std.specs.Io.KnownBytes.{Consumes, IsAtEnd}
use Rattle.qa_base.specs.machine.Packets.{history_of}
use Rattle.qa_format.specs.format.Lines.{ended_lines, line_limit, lines}
use Rattle.qa_format.specs.format.Reading.{reading}
use Rattle.qa_format.specs.verdicts.Verdict.{AreGood, Judging, IsFixed, events_in, header_in}
use Rattle.qa_format.specs.verdicts.Verdict.{said, verdict}
use Rattle.qa_check.specs.declared.taking.Halt.{Halt}
use Rattle.qa_check.specs.declared.taking.Halt.TheVariants as halts
use Rattle.qa_check.specs.declared.taking.LastLine.{LastLine}
use Rattle.qa_check.specs.declared.walking.Ended.{Ended}
use Rattle.qa_check.specs.declared.walking.WalkFault.{WalkFault}
use Rattle.qa_check.specs.declared.walking.WalkFault.TheVariants as faults
use Rattle.qa_check.specs.Audit.{IsReadNoFurtherBy, ReadsEnoughBy}
use Rattle.qa_check.specs.Following.{Answers, FollowsBy}
use Rattle.qa_check.specs.Standing.{Held, HoldsRun, Judges, StandsFor, by}
use Rattle.qa_check.specs.Places.{good_lines, judged_at}

-- ---- while all lines are good

-- the checker stands for these lines, and the visitor covers them
abbrev pub Covered : {J V : Type 0} → Judges J → (V → List (List ℕ) → Type 0) → Held J → V
    → List (List ℕ) → Type 0
Covered judges covers held visitor ls = StandsFor judges held ls × covers visitor ls

-- the lines are those that an LF ends in the bytes, all good, and this rest is behind them
abbrev pub Walked : {J V : Type 0} → Judges J → (V → List (List ℕ) → Type 0) → List ℕ → Held J → V
    → List ℕ → Type 0
Walked judges covers rest held visitor bytes =
    FollowsBy (by judges) (Covered judges covers held visitor) rest bytes

-- one more line is good, and the visitor covers it too
abbrev pub VisitsGood : {J V : Type 0} → Judges J → (V → List (List ℕ) → Type 0) → Held J → Held J
    → V → V → List ℕ → Type 0
VisitsGood judges covers old new visitor visitor' l =
    (ls : List (List ℕ)) → Covered judges covers old visitor ls
    → Covered judges covers new visitor' (ls ++ l ∷ []) × AreGood (by judges) (ls ++ l ∷ [])

-- ---- where it halts before a verdict

-- the visitor was halted so at the last of these lines
abbrev pub HaltsAt : {V F : Type 0} → (V → List (List ℕ) → Type 0)
    → (V → List (List ℕ) → F → Type 0) → V → Halt F → List (List ℕ) → Type 0
HaltsAt covers fails visitor halts.OutOfMemory ls = covers visitor ls
HaltsAt covers fails visitor (halts.Visitor f) ls = fails visitor ls f

-- at one of these lines, and those before it were good
abbrev pub HaltsIn : {V F : Type 0} → (V → List (List ℕ) → Type 0)
    → (V → List (List ℕ) → F → Type 0) → V → Halt F → List (List ℕ) → Type 0
HaltsIn covers fails visitor halt all =
    (ls : List (List ℕ)) × (more : List (List ℕ)) × (all ≡ ls ++ more)
    × HaltsAt covers fails visitor halt ls

-- at one of the lines that an LF ends in the bytes; or behind good lines of them, where they fix
-- the verdict
abbrev pub HaltsWithin : {V F : Type 0} → Judging → (V → List (List ℕ) → Type 0)
    → (V → List (List ℕ) → F → Type 0) → V → Halt F → List ℕ → Type 0
HaltsWithin judging covers fails visitor halt bytes =
    HaltsIn covers fails visitor halt (ended_lines bytes)
    ⊎ (IsFixed judging bytes × HaltsIn covers fails visitor halt (lines bytes))

-- ---- where it ends

-- a line is handed out as it stands behind n others, and with it what was read of it
abbrev pub IsLine : ℕ → List ℕ → LastLine → Type 0
IsLine n l last = (last.bytes.items ≡ l) × (last.said ≡ result_ok (said reading n l))

-- the line behind the good ones is handed out; a line that is too long is not, and none where all
-- lines are good
abbrev pub HandsOut : Option LastLine → List (List ℕ) × Option (List ℕ) → Type 0
HandsOut (Some last) place =
    (place.1 ≡ Some last.bytes.items) × IsLine (length place.0) last.bytes.items last
HandsOut None place = IfSome place.1 (λ l. line_limit < length l)

-- a judge holds the run of the good lines of the bytes
abbrev pub HoldsGood : {J : Type 0} → Judges J → Option J → List ℕ → Type 0
HoldsGood judges judge bytes =
    HoldsRun judges judge (header_in reading (good_lines (by judges) bytes))
    (history_of (events_in reading (good_lines (by judges) bytes)))

-- a checker has come to the verdict of the bytes, and this is handed out of the line behind the
-- good ones, where lines are kept
abbrev pub IsEnded : {J : Type 0} → Judges J → Bool → Held J → Option LastLine → List ℕ → Type 0
IsEnded judges keeps held last bytes =
    Answers judges held bytes × HoldsGood judges held.ledger bytes
    × (keeps ≡ true → HandsOut last (judged_at (by judges) [] (lines bytes)))

-- and the visitor covers the good lines
abbrev pub Ends : {J V : Type 0} → Judges J → (V → List (List ℕ) → Type 0) → Bool → Held J → V
    → Option LastLine → List ℕ → Type 0
Ends judges covers keeps held visitor last bytes =
    IsEnded judges keeps held last bytes × covers visitor (good_lines (by judges) bytes)

-- ---- the walk

-- it ended at the verdict of the bytes
abbrev pub IsEnd : {J : Type 0} → Judges J → Bool → Ended J → List ℕ → Type 0
IsEnd judges keeps ended bytes =
    (ended.verdict ≡ verdict (by judges) bytes) × HoldsGood judges ended.judge bytes
    × (keeps ≡ true → HandsOut ended.line (judged_at (by judges) [] (lines bytes)))

-- bytes were read of which lines that come first have this: lines that an LF ends; or any, where
-- those bytes are all that counts
abbrev pub LeftIn : Judging → Option (List ℕ) → Option (List ℕ) → ℕ → (List (List ℕ) → Type 0)
    → Type 0
LeftIn judging old new last P =
    (bytes : List ℕ) × Consumes old new bytes × IsReadNoFurtherBy judging last bytes
    × (ls : List (List ℕ)) × (more : List (List ℕ)) × P ls
    × ((ended_lines bytes ≡ ls ++ more)
    ⊎ ((IsAtEnd new ⊎ IsFixed judging bytes) × (lines bytes ≡ ls ++ more)))

-- a walk that has no verdict read this of a reader, and left its visitor so: behind a failed read,
-- where all lines are good that an LF ends; or at a line
abbrev pub WalksInto : {V F : Type 0} → Judging → (V → List (List ℕ) → Type 0)
    → (V → List (List ℕ) → F → Type 0) → Option (List ℕ) → Option (List ℕ) → ℕ → V → WalkFault F
    → Type 0
WalksInto judging covers fails old new last visitor faults.Read =
    (bytes : List ℕ) × Consumes old new bytes × (IsFixed judging bytes → ⊥)
    × covers visitor (ended_lines bytes)
WalksInto judging covers fails old new last visitor faults.OutOfMemory =
    LeftIn judging old new last (λ ls. covers visitor ls)
WalksInto judging covers fails old new last visitor (faults.Visitor f) =
    LeftIn judging old new last (λ ls. fails visitor ls f)

-- what a walk read of a reader, and how it left its visitor: with a verdict, which is that of the
-- bytes that were read and are all that counts; or with none
abbrev pub Walks : {J V F : Type 0} → Judges J → Bool → (V → List (List ℕ) → Type 0)
    → (V → List (List ℕ) → F → Type 0) → Option (List ℕ) → Option (List ℕ) → ℕ → V
    → Result (Ended J) (WalkFault F) → Type 0
Walks judges keeps covers fails old new last visitor (Ok ended) =
    (bytes : List ℕ) × ReadsEnoughBy (by judges) old new last bytes
    × IsEnd judges keeps ended bytes × covers visitor (good_lines (by judges) bytes)
Walks judges keeps covers fails old new last visitor (Err f) =
    WalksInto (by judges) covers fails old new last visitor f

-- the same by the checker that was led along
abbrev pub WalksTo : {J V F : Type 0} → Judges J → Bool → (V → List (List ℕ) → Type 0)
    → (V → List (List ℕ) → F → Type 0) → Option (List ℕ) → Option (List ℕ) → ℕ → Held J → V
    → Result (Option LastLine) (WalkFault F) → Type 0
WalksTo judges keeps covers fails old new last held visitor (Ok line) =
    (bytes : List ℕ) × ReadsEnoughBy (by judges) old new last bytes
    × Ends judges covers keeps held visitor line bytes
WalksTo judges keeps covers fails old new last held visitor (Err f) =
    WalksInto (by judges) covers fails old new last visitor f

-- the fault of a walk whose lines were halted
abbrev pub fault_by : {F : Type 0} → Halt F → WalkFault F
fault_by halts.OutOfMemory = faults.OutOfMemory
fault_by (halts.Visitor f) = faults.Visitor f

-- whether the reader failed
abbrev pub has_failed_read : {A F : Type 0} → Result A (WalkFault F) → Bool
has_failed_read (Err faults.Read) = true
has_failed_read result = false
