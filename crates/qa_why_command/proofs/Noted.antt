-- What was told of a trace, by the contracts of the calls that read it.
use Rattle.std.proofs.Common.{◌≡◌, ℕ, true, false, List, Option, Some, Result, Ok, Err, IfOk, take, refl, subst}
use Rattle.std.specs.Io.KnownBytes.{Appends}
use Rattle.std.specs.Prelude.{OnOk, OnErr, IfErr, ◌&&◌, not}
use Rattle.qa_violations.specs.all.All.{past_sender_rules}
use Rattle.qa_check.proofs.Writing.{begins_taken}
use Rattle.qa_check.specs.Audit.{ReadsBy, ReadsEnoughBy, is_read_fault, is_write_fault, outcome_of}
use Rattle.qa_check.specs.Failures.{failures_after}
use Rattle.qa_check.specs.Writing.{BeginsToldRead, ShowsToldRead}
use Rattle.qa_check.specs.declared.auditing.AuditFault.{AuditFault}
use Rattle.qa_check.specs.declared.auditing.AuditFault.TheVariants as faults
use Rattle.qa_check.specs.declared.auditing.Outcome.{Outcome}
use Rattle.qa_commands.specs.Names.{shown_lines}
use Rattle.qa_format.specs.format.Reading.{reading}
use Rattle.qa_format.specs.verdicts.Explain.{told}
use Rattle.qa_format.specs.verdicts.Verdict.{Judging, strict, verdict}
use Rattle.qa_why.specs.json_rows.Rows.{row_of}
use Rattle.qa_why_command.specs.warnings.Keeping.{Covers}
use Rattle.qa_why_command.specs.declared.warnings.warnings.Warnings.{Warnings}
use Rattle.qa_arguments.specs.why.Asked.{Wanted}
use Rattle.qa_arguments.specs.declared.why.arguments.Told.{Told}
use Rattle.qa_arguments.specs.declared.why.arguments.Told.TheVariants.{AllRows, Rows}
use Rattle.qa_why_command.specs.Commands.{Refuses}
use Rattle.qa_why_command.specs.Noted.{TellsNoted, WasWarned, unnoted}
use Rattle.qa_why_command.specs.Streams.{Input, Stream, WasTold, streams}
use Rattle.qa_why_command.specs.Telling.{Counts, CountsFaults, StoppedRows, TellsRead, Warns, are_rows, judging_of, outcome_by, text_of}
use Rattle.qa_why.specs.Why.{good_lines}

-- by the contract of `write_whole`
pub told_whole : (r : Result (Unit {0}) AuditFault) (a b : Option (List ℕ)) (n n' : ℕ) (bytes : List ℕ) → OnOk r (Appends a b bytes) → OnErr r ((k : ℕ) × Appends a b (take k bytes))
    → n' ≡ failures_after (is_write_fault r) n → IfErr r (λ fault. fault ≡ faults.Write) → WasTold (a, n) (b, n') bytes
told_whole (Ok u) a b n n' bytes ok err count is = (false, record { wrote = ok; counted = count })
told_whole (Err fault) a b n n' bytes ok err count is = (true, record { wrote = begins_taken a b bytes err; counted = rw is at count })

-- of arguments that were refused
pub refused_by : (text : List ℕ) (input : Input) (output error error' : Stream) → WasTold error error' (shown_lines text) → Refuses 64 (streams input output error) (streams input output error')
refused_by text input output error error' told = (refl, (text, (refl, refl, told)))

-- ---- texts

-- by the contract of a call that takes notes
pub noted_by : {N : Type 0} (judging : Judging) (text : List ℕ → List ℕ) (outcome : List ℕ → Outcome) (covers : N → List (List ℕ) → Type 0)
    (result : Result (Outcome × N) AuditFault) (left left' : Option (List ℕ)) (l r r' : ℕ) (held held' : Option (List ℕ)) (n n' last : ℕ)
    → ((bytes : List ℕ) → left ≡ Some bytes
    → IfOk result (λ known. (Appends held held' (text bytes) × (known.0 ≡ outcome bytes)) × covers known.1 (good_lines judging bytes)))
    → IfOk result (λ known. (bytes : List ℕ) × ReadsEnoughBy judging left left' last bytes
    × (Appends held held' (text bytes) × (known.0 ≡ outcome bytes)) × covers known.1 (good_lines judging bytes))
    → ReadsBy judging left left' last
    → (result ≡ Err faults.Write → (bytes : List ℕ) × (k : ℕ) × ReadsEnoughBy judging left left' last bytes × Appends held held' (take k (text bytes)))
    → ((result ≡ Err faults.Write → ⊥) → OnErr result (held' ≡ held))
    → r' ≡ failures_after (is_read_fault result) r → n' ≡ failures_after (is_write_fault result) n
    → TellsNoted judging text outcome covers result (left, l, r) (left', last, r') (held, n) (held', n')
noted_by judging text outcome covers (Ok known) left left' l r r' held held' n n' last told ok reads begun unwritten read wrote =
    (record { of_read = (ok.0, ok.1, (ok.2, ok.3)); of_all = told }, (read, wrote))
noted_by judging text outcome covers (Err faults.Read) left left' l r r' held held' n n' last told ok reads begun unwritten read wrote =
    ((reads, unwritten (λ e. cc)), (read, wrote))
noted_by judging text outcome covers (Err faults.Write) left left' l r r' held held' n n' last told ok reads begun unwritten read wrote =
    let some = begun refl in
    ((some.0, some.2, begins_taken held held' (text some.0) (some.1, some.3)), (read, wrote))
noted_by judging text outcome covers (Err faults.OutOfMemory) left left' l r r' held held' n n' last told ok reads begun unwritten read wrote =
    ((reads, unwritten (λ e. cc)), (read, wrote))

-- with what was told of the notes on the error stream
pub read_with : {N : Type 0} (told : Told) (w : Wanted) (name : List ℕ) (covers : N → List (List ℕ) → Type 0) (noted : Result (Outcome × N) AuditFault)
    (input input' : Input) (output output' error error' : Stream) → are_rows told ≡ false
    → ((known : Outcome × N) (bytes : List ℕ) → noted ≡ Ok known → covers known.1 (good_lines (judging_of told) bytes)
    → Warns (not (are_rows told) && w.warn) (judging_of told) name bytes error error')
    → ((fault : AuditFault) → noted ≡ Err fault → error' ≡ error)
    → TellsNoted (judging_of told) (text_of told w name) (outcome_by told) covers noted input input' output output'
    → TellsRead told w name (unnoted noted) (streams input output error) (streams input' output' error')
read_with told w name covers (Ok known) input input' output output' error error' is warns kept noted =
    let read = noted.0.of_read in (
      record {
        of_read = (read.0, read.1, (read.2.0.0, read.2.0.1, warns known read.0 refl read.2.1));
        of_all = λ bytes tells. let all = noted.0.of_all bytes tells in (all.0.0, all.0.1, warns known bytes refl all.1);
      },
      noted.1,
    )
read_with told w name covers (Err faults.Read) input input' output output' error error' is warns kept noted =
    ((rw is noted.0, kept faults.Read refl), noted.1)
read_with told w name covers (Err faults.Write) input input' output output' error error' is warns kept noted =
    ((rw is noted.0, kept faults.Write refl), noted.1)
read_with told w name covers (Err faults.OutOfMemory) input input' output output' error error' is warns kept noted =
    ((rw is noted.0, kept faults.OutOfMemory refl), noted.1)

-- with warnings
pub read_warned : (told : Told) (w : Wanted) (name : List ℕ) (noted : Result (Outcome × Warnings) AuditFault) (result : Result Outcome AuditFault)
    (input input' : Input) (output output' error error' : Stream) → are_rows told ≡ false → w.warn ≡ true → result ≡ unnoted noted → WasWarned noted error error'
    → TellsNoted (judging_of told) (text_of told w name) (outcome_by told) (Covers name) noted input input' output output'
    → TellsRead told w name result (streams input output error) (streams input' output' error')
read_warned told w name noted result input input' output output' error error' is warn same warned noted_so =
    rw same
    (read_with told w name (Covers name) noted input input' output output' error error' is
    (λ known bytes ok covers. rw (is, warn) ((subst (λ (r : Result (Outcome × Warnings) AuditFault). WasWarned r error error') ok warned) name (good_lines (judging_of told) bytes) covers))
    (λ fault err. subst (λ (r : Result (Outcome × Warnings) AuditFault). WasWarned r error error') err warned) noted_so)

-- with none
pub read_unwarned : {N : Type 0} (told : Told) (w : Wanted) (name : List ℕ) (covers : N → List (List ℕ) → Type 0) (noted : Result (Outcome × N) AuditFault)
    (result : Result Outcome AuditFault) (input input' : Input) (output output' error error' : Stream) → are_rows told ≡ false → w.warn ≡ false → result ≡ unnoted noted
    → error' ≡ error → TellsNoted (judging_of told) (text_of told w name) (outcome_by told) covers noted input input' output output'
    → TellsRead told w name result (streams input output error) (streams input' output' error')
read_unwarned told w name covers noted result input input' output output' error error' is silent same kept noted_so =
    rw same
    (read_with told w name covers noted input input' output output' error error' is (λ known bytes ok covered. rw (is, silent) kept) (λ fault err. kept) noted_so)

-- ---- rows

abbrev pub RowsTold : Judging → Result Outcome AuditFault → Input → Input → Stream → Stream → Stream → Stream → Type 0
RowsTold judging (Ok outcome) input input' output output' error error' =
    Counts judging input input'
    (λ bytes. Appends output.0 output'.0 (told row_of judging bytes) × (outcome ≡ outcome_of (verdict judging bytes)) × (error' ≡ error))
RowsTold judging (Err fault) input input' output output' error error' = StoppedRows judging fault input input' output output' × (error' ≡ error)

-- by the contract of a call that writes rows
pub rows_by : (judging : Judging) (result : Result Outcome AuditFault) (left left' : Option (List ℕ)) (l r r' : ℕ) (held held' : Option (List ℕ)) (n n' last : ℕ)
    (error error' : Stream) → error' ≡ error
    → ((bytes : List ℕ) → left ≡ Some bytes → IfOk result (λ outcome. Appends held held' (told row_of judging bytes) × (outcome ≡ outcome_of (verdict judging bytes))))
    → IfOk result (λ outcome. (bytes : List ℕ) × ReadsEnoughBy judging left left' last bytes
    × (Appends held held' (told row_of judging bytes) × (outcome ≡ outcome_of (verdict judging bytes))))
    → (result ≡ Err faults.Read → ShowsToldRead judging row_of left left' held held')
    → (is_read_fault result ≡ false → OnErr result (BeginsToldRead judging row_of left left' last held held' (told row_of judging)))
    → r' ≡ failures_after (is_read_fault result) r → n' ≡ failures_after (is_write_fault result) n
    → RowsTold judging result (left, l, r) (left', last, r') (held, n) (held', n') error error' × CountsFaults result (left, l, r) (left', last, r') (held, n) (held', n')
rows_by judging (Ok outcome) left left' l r r' held held' n n' last error error' same tells ok rows begun read wrote = (
  record {
    of_read = (ok.0, ok.1, (ok.2.0, ok.2.1, same));
    of_all = λ bytes is. let all = tells bytes is in (all.0, all.1, same);
  },
  (read, wrote),
)
rows_by judging (Err faults.Read) left left' l r r' held held' n n' last error error' same tells ok rows begun read wrote = ((rows refl, same), (read, wrote))
rows_by judging (Err faults.Write) left left' l r r' held held' n n' last error error' same tells ok rows begun read wrote =
    ((begun refl, same), (read, wrote))
rows_by judging (Err faults.OutOfMemory) left left' l r r' held held' n n' last error error' same tells ok rows begun read wrote =
    ((begun refl, same), (read, wrote))

pub rows_read : (w : Wanted) (name : List ℕ) (result : Result Outcome AuditFault) (input input' : Input) (output output' error error' : Stream)
    → RowsTold (strict reading) result input input' output output' error error' × CountsFaults result input input' output output'
    → TellsRead Rows w name result (streams input output error) (streams input' output' error')
rows_read w name (Ok outcome) input input' output output' error error' told = told
rows_read w name (Err fault) input input' output output' error error' told = told

pub all_rows_read : (w : Wanted) (name : List ℕ) (result : Result Outcome AuditFault) (input input' : Input) (output output' error error' : Stream)
    → RowsTold past_sender_rules result input input' output output' error error' × CountsFaults result input input' output output'
    → TellsRead AllRows w name result (streams input output error) (streams input' output' error')
all_rows_read w name (Ok outcome) input input' output output' error error' told = told
all_rows_read w name (Err fault) input input' output output' error error' told = told
