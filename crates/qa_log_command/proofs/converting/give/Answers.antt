use Rattle.qa_log_command.proofs.WrittenLines.{text_is_lines}
use Rattle.qa_log_command.proofs.converting.give.Goals as goal

pub returns-clause-written : goal.returns-clause-written
returns-clause-written g c =
    (c.text.result.now, text_is_lines _ c.text.ensures.lines, c.write_text.ensures)
