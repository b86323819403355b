use Rattle.qa_logs.proofs.Found.{log_by}
use Rattle.qa_logs.proofs.files.is_log.Goals as goal

pub returns-in-Ok-Document : goal.returns-in-Ok-Document
returns-in-Ok-Document c = log_by _ c.in-Ok-Document.field-0 _ c.in-Ok-Document.ensures.value c.in-Ok-Document.field-0-is c.has_key_of_logs.ensures
