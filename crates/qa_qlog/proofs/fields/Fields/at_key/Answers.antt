use Rattle.json.specs.Find.{get, as_array}
use Rattle.qa_qlog.specs.Records.{in_list}
use Rattle.qa_qlog.proofs.Values.{or_found}
use Rattle.qa_qlog.proofs.fields.Fields.at_key.Goals as goal

pub returns-in-Some : goal.returns-in-Some
returns-in-Some c j begins =
    or_found _ (get c.args.key.now j) (in_list c.args.self.now c.args.key.now (as_array j)) (c.in-Some.ensures j begins)
