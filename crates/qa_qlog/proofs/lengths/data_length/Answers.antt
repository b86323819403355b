use Rattle.std.proofs.Common.{codes}
use Rattle.json.specs.Find.{get}
use Rattle.qa_qlog.proofs.lengths.data_length.Goals as goal

pub returns : goal.returns
returns c j begins = c.optional_at.ensures (get (codes "payload_length") j) (c.get.ensures j begins)
