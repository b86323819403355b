use Rattle.qa_logs.proofs.Beside.{ends_document}
use Rattle.qa_logs.proofs.Parsed.{if_ok}
use Rattle.qa_logs.proofs.opening.Found.end.Goals as goal

pub returns-in_ok-into_skeleton-in-Document : goal.returns-in_ok-into_skeleton-in-Document
returns-in_ok-into_skeleton-in-Document c = if_ok c.document_of.result (λ log is. ends_document c.args.self c.in_ok-into_skeleton-in-Document.field-0 log c.in-Document.is c.in_ok-into_skeleton-in-Document.ensures is.0 is.1) c.document_of.ensures
