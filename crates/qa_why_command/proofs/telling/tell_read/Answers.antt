use Rattle.std.proofs.Common.{refl}
use Rattle.qa_violations.specs.all.All.{past_sender_rules}
use Rattle.qa_format.specs.format.Reading.{reading}
use Rattle.qa_format.specs.verdicts.Verdict.{strict}
use Rattle.qa_arguments.specs.why.Asked.{wanted}
use Rattle.qa_why_command.proofs.Noted.{all_rows_read, rows_by, rows_read}
use Rattle.qa_why_command.proofs.telling.tell_read.Goals as goal

pub returns-in-Rows : goal.returns-in-Rows
returns-in-Rows g c =
    rw c.in-Rows.is
    (rows_read (wanted c.args.inquiry.now) c.args.name.now _ _ _ _ _ _ _
    (rows_by (strict reading) _ _ _ _ _ _ _ _ _ _ _ _ _ refl c.rows.ensures.told c.rows.ensures.ok c.rows.ensures.rows c.rows.ensures.begun c.rows.ensures.read_failures
    c.rows.ensures.write_failures))

pub returns-in-AllRows : goal.returns-in-AllRows
returns-in-AllRows g c =
    rw c.in-AllRows.is
    (all_rows_read (wanted c.args.inquiry.now) c.args.name.now _ _ _ _ _ _ _
    (rows_by past_sender_rules _ _ _ _ _ _ _ _ _ _ _ _ _ refl c.rows_all.ensures.told c.rows_all.ensures.ok c.rows_all.ensures.rows c.rows_all.ensures.begun
    c.rows_all.ensures.read_failures c.rows_all.ensures.write_failures))
