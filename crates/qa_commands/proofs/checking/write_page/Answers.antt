use Rattle.qa_commands.proofs.Pages.{page_written, page_begun}
use Rattle.qa_commands.proofs.checking.write_page.Goals as goal

pub returns-in-Ok-clause-written : goal.returns-in-Ok-clause-written
returns-in-Ok-clause-written g c name on = page_written name c.args.outcome c.args.page.now _ _ on c.in-Ok.ensures.ok

pub returns-in-Err-clause-written : goal.returns-in-Err-clause-written
returns-in-Err-clause-written g c name on = page_begun name c.args.outcome c.args.page.now _ _ on c.in-Err.ensures.err
