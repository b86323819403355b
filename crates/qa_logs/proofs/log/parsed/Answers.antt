use Rattle.qa_logs.proofs.Parsed.{parsed_at}
use Rattle.qa_logs.proofs.log.parsed.Goals as goal

pub returns-in-Ok-parse : goal.returns-in-Ok-parse
returns-in-Ok-parse c = parsed_at c.args.bytes.now c.in-Ok.text.now c.in-Ok-parse.tape c.in-Ok.ensures.cases.0 c.in-Ok.ensures.cases.1 c.in-Ok-parse.ensures.ok.1 c.in-Ok-parse.ensures.value
