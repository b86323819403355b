-- What an audit or an explanation wrote, by its contract.
use Rattle.std.proofs.Common.{◌≡◌, inl, inr, Bool, false, ℕ, List, [], ◌++◌, Option, Some, None, Result, Ok, Err, refl}
use Rattle.std.specs.Borrow.{Bor}
use Rattle.qa_format.specs.verdicts.Verdict.{strict}
use Rattle.qa_format.specs.format.Lines.{ended_lines, unended, last_line}
use Rattle.qa_format.specs.format.Reading.{reading}
use Rattle.qa_format.specs.verdicts.Explain as explanation
use Rattle.qa_format.proofs.verdicts.Rows.{told_begin, explanation_begins}
use Rattle.qa_check.specs.declared.auditing.Outcome.{Outcome}
use Rattle.qa_check.specs.declared.auditing.AuditFault.{AuditFault}
use Rattle.qa_check.specs.declared.auditing.AuditFault.TheVariants as faults
use Rattle.qa_check.specs.Audit.{Reports, BeginsReport, ReadsEnough, is_read_fault, is_write_fault}
use Rattle.qa_check.specs.Failures.{failures_after}
use Rattle.qa_check.specs.Writing as writing
use Rattle.qa_check.specs.Writing.{Begins, BeginsRead, ShowsRead, told_ended}
use Rattle.qa_check.proofs.Writing.{begins_longer}
use Rattle.qa_commands.specs.Checking.{AreOf, Audited, Checks, is_unread, stops}
use Rattle.qa_commands.specs.Ending.{failure_of}
use Rattle.qa_commands.specs.Explaining.{Explained}
use Rattle.qa_commands.specs.declared.ending.Failure.{Failure}
use Rattle.qa_commands.specs.declared.ending.Failure.TheVariants.{Arguments, Open, Read, Write, OutOfMemory}
use Rattle.qa_commands.specs.declared.ending.Origin.{Origin}
use Rattle.qa_commands.specs.declared.ending.Origin.TheVariants.{File}

-- what holds of the bytes that are told, or else of some
of_told : (P : List ℕ → Type 0) (left : Option (List ℕ)) → ((bytes : List ℕ) → left ≡ Some bytes → P bytes) → (bytes : List ℕ) → P bytes
    → (told : List ℕ) × AreOf left told × P told
of_told P None told bytes p = (bytes, tt, p)
of_told P (Some all) told bytes p = (all, refl, told all refl)

-- the counts of failures by the failure that is told
pub stop_counted : (origin : Origin) (fault : AuditFault) (failure : Failure) (n n' : ℕ) → failure ≡ failure_of origin fault
    → n' ≡ failures_after (is_write_fault {A = Outcome} (Err fault)) n → n' ≡ failures_after (stops (Err failure)) n
stop_counted origin faults.Read failure n n' is count = rw is count
stop_counted origin faults.Write failure n n' is count = rw is count
stop_counted origin faults.OutOfMemory failure n n' is count = rw is count

pub read_counted : (origin : Origin) (fault : AuditFault) (failure : Failure) (n n' : ℕ) → failure ≡ failure_of origin fault
    → n' ≡ failures_after (is_read_fault {A = Outcome} (Err fault)) n → n' ≡ failures_after (is_unread (Err failure)) n
read_counted origin faults.Read failure n n' is count = rw is count
read_counted origin faults.Write failure n n' is count = rw is count
read_counted origin faults.OutOfMemory failure n n' is count = rw is count

-- ---- an audit

pub audited_ok : {last : ℕ} (left left' held held' : Option (List ℕ)) (outcome : Outcome) (origin : Origin)
    → ((bytes : List ℕ) → left ≡ Some bytes → Reports held held' outcome bytes)
    → (bytes : List ℕ) × ReadsEnough left left' last bytes × Reports held held' outcome bytes
    → Audited left origin (Ok outcome) held held'
audited_ok left left' held held' outcome origin told (bytes, read, reports) = of_told (Reports held held' outcome) left told bytes reports

pub audited_err : {last : ℕ} (left left' held held' : Option (List ℕ)) (origin : Origin) (fault : AuditFault) (failure : Failure) → failure ≡ failure_of origin fault
    → ((bytes : List ℕ) → left ≡ Some bytes → fault ≡ faults.Write → BeginsReport held held' bytes)
    → (fault ≡ faults.Write → (bytes : List ℕ) × ReadsEnough left left' last bytes × BeginsReport held held' bytes)
    → ((fault ≡ faults.Write → ⊥) → held' ≡ held)
    → Audited left origin (Err failure) held held'
audited_err left left' held held' origin faults.Read failure is told begun unwritten = rw is (refl, unwritten (λ e. cc))
audited_err left left' held held' origin faults.Write failure is told begun unwritten =
    let some = begun refl in
    rw is (of_told (BeginsReport held held') left (λ bytes tells. told bytes tells refl) some.0 some.2)
audited_err left left' held held' origin faults.OutOfMemory failure is told begun unwritten = rw is (unwritten (λ e. cc))

-- of an origin that tells no bytes
pub audited_untold : (left held held' : Option (List ℕ)) (origin : Origin) (ended : Result Outcome Failure)
    → Audited left origin ended held held' → Audited None origin ended held held'
audited_untold left held held' origin (Ok outcome) (bytes, of, reports) = (bytes, tt, reports)
audited_untold left held held' origin (Err Arguments) a = a
audited_untold left held held' origin (Err (Open name)) a = a
audited_untold left held held' origin (Err (Read failed)) a = a
audited_untold left held held' origin (Err Write) (bytes, of, begun) = (bytes, tt, begun)
audited_untold left held held' origin (Err OutOfMemory) a = a

-- ---- an explanation

-- a beginning of the rows
begun_rows : {last : ℕ} (left left' held held' : Option (List ℕ)) → BeginsRead left left' last held held' (explanation.rows (strict reading))
    → (bytes : List ℕ) × Begins held held' (explanation.rows (strict reading) bytes)
begun_rows left left' held held' (bytes, consumes, further, begun) = elim begun [
  | inl ended ↦ let more = told_begin explanation.row_said (strict reading) (ended_lines bytes) (last_line (unended bytes)) in (bytes, begins_longer held held' _ _ more.0 more.1 ended)
  | inr all ↦ (bytes, all.1)
]

-- a beginning of the rows and the report
begun_all : {last : ℕ} (left left' held held' : Option (List ℕ)) → BeginsRead left left' last held held' (explanation.explain (strict reading))
    → (bytes : List ℕ) × Begins held held' (explanation.explain (strict reading) bytes)
begun_all left left' held held' (bytes, consumes, further, begun) = elim begun [
  | inl ended ↦ let more = explanation_begins (strict reading) bytes [] in (bytes ++ [], begins_longer held held' _ _ more.0 more.1 ended)
  | inr all ↦ (bytes, all.1)
]

pub explained_ok : {last : ℕ} (left left' held held' : Option (List ℕ)) (outcome : Outcome) (origin : Origin)
    → ((bytes : List ℕ) → left ≡ Some bytes → writing.Explains held held' outcome bytes)
    → (bytes : List ℕ) × ReadsEnough left left' last bytes × writing.Explains held held' outcome bytes
    → Explained left origin (Ok outcome) held held'
explained_ok left left' held held' outcome origin told (bytes, read, explains) = of_told (writing.Explains held held' outcome) left told bytes explains

pub explained_err : {last : ℕ} (left left' held held' : Option (List ℕ)) (origin : Origin) (fault : AuditFault) (failure : Failure) → failure ≡ failure_of origin fault
    → (fault ≡ faults.Read → ShowsRead left left' held held')
    → (fault ≡ faults.OutOfMemory → BeginsRead left left' last held held' (explanation.rows (strict reading)))
    → ((bytes : List ℕ) → left ≡ Some bytes → fault ≡ faults.Write → Begins held held' (explanation.explain (strict reading) bytes))
    → (fault ≡ faults.Write → BeginsRead left left' last held held' (explanation.explain (strict reading)))
    → Explained left origin (Err failure) held held'
explained_err left left' held held' origin faults.Read failure is rows memory told begun = let shown = rows refl in rw is (refl, (shown.0, shown.3))
explained_err left left' held held' origin faults.Write failure is rows memory told begun =
    let some = begun_all left left' held held' (begun refl) in
    rw is (of_told (λ bytes. Begins held held' (explanation.explain (strict reading) bytes)) left (λ bytes tells. told bytes tells refl) some.0 some.1)
explained_err left left' held held' origin faults.OutOfMemory failure is rows memory told begun = rw is (begun_rows left left' held held' (memory refl))

-- of an origin that tells no bytes
pub explained_untold : (left held held' : Option (List ℕ)) (origin : Origin) (ended : Result Outcome Failure)
    → Explained left origin ended held held' → Explained None origin ended held held'
explained_untold left held held' origin (Ok outcome) (bytes, of, explains) = (bytes, tt, explains)
explained_untold left held held' origin (Err Arguments) a = a
explained_untold left held held' origin (Err (Open name)) a = a
explained_untold left held held' origin (Err (Read failed)) a = a
explained_untold left held held' origin (Err Write) (bytes, of, begun) = (bytes, tt, begun)
explained_untold left held held' origin (Err OutOfMemory) a = a

-- ---- a file

-- one file alone
pub checked_alone : (left old middle new : Option (List ℕ)) (several : Bool) (name : Bor (List ℕ)) (ended : Result Outcome Failure)
    → several ≡ false → middle ≡ old → Audited left (File name) ended middle new → Checks several name ended old new
checked_alone left old middle new several name ended alone same audited =
    inr (middle, rw alone same, audited_untold left middle new (File name) ended audited)
