use Rattle.std.proofs.Common.{ap}
use Rattle.qa_qlog.specs.Documents.{records_in}
use Rattle.qa_qlog.proofs.documents.items_in.Goals as goal

pub returns-in-Some : goal.returns-in-Some
returns-in-Some c j begins =
    let shape = c.in-Some.ensures j begins in
    (shape.0, ap records_in shape.1, shape.2)
