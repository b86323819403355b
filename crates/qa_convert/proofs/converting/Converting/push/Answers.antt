use Rattle.std.proofs.Common.{◌≡◌, ◌∙◌, ap, sym}
use Rattle.std.proofs.lemmas.Result.{on_ok_weaker}
use Rattle.json.specs.Find.{BeginsWith}
use Rattle.json.specs.Json.{document}
use Rattle.qa_convert.proofs.Read.{value_of}
use Rattle.std.proofs.lemmas.Result.{IfErr-weaker}
use Rattle.qa_convert.proofs.Faulty.{is_json_of, of_record_weaker, text_fault}
use Rattle.qa_convert.specs.Connections.{numbering_of}
use Rattle.qa_convert.specs.Faults.{IsRecordFault, IsTextFault, OfRecord}
use Rattle.qa_convert.proofs.converting.Converting.push.Goals as goal

pub returns-in-Ok-parse-clause-takes : goal.returns-in-Ok-parse-clause-takes
returns-in-Ok-parse-clause-takes c =
    let parsed = c.in-Ok-parse.ensures in
    let v = value_of (document c.in-Ok.text.now) parsed.ok.1 in
    let is : document c.args.text.now ≡ document c.in-Ok.text.now = ap document (sym c.in-Ok.ensures.cases.0) in
    let begins : BeginsWith c.root.result v.0 = rw c.root.ensures.same (parsed.value v.0 v.1) in
    on_ok_weaker c.take.result (λ takes. (v.0, is ∙ v.1, takes)) (c.take.ensures.takes v.0 begins)

pub returns-in-Ok-parse-clause-fault : goal.returns-in-Ok-parse-clause-fault
returns-in-Ok-parse-clause-fault c =
    let old = c.args.self.now in
    let named = numbering_of old.cursor.connections in
    let parsed = c.in-Ok-parse.ensures in
    let v = value_of (document c.in-Ok.text.now) parsed.ok.1 in
    let is : document c.args.text.now ≡ document c.in-Ok.text.now = ap document (sym c.in-Ok.ensures.cases.0) in
    let begins : BeginsWith c.root.result v.0 = rw c.root.ensures.same (parsed.value v.0 v.1) in
    IfErr-weaker c.take.result (OfRecord (IsRecordFault old.head named v.0)) (OfRecord (IsTextFault old.head named c.args.text.now))
    (λ e. of_record_weaker (IsRecordFault old.head named v.0) (IsTextFault old.head named c.args.text.now) e (λ e. text_fault old.head named c.args.text.now v.0 e (is ∙ v.1))) (c.take.ensures.fault v.0 begins)

pub returns-in-Ok-parse-clause-json : goal.returns-in-Ok-parse-clause-json
returns-in-Ok-parse-clause-json c not =
    let old = c.args.self.now in
    let parsed = c.in-Ok-parse.ensures in
    let v = value_of (document c.in-Ok.text.now) parsed.ok.1 in
    let begins : BeginsWith c.root.result v.0 = rw c.root.ensures.same (parsed.value v.0 v.1) in
    absurd (is_json_of old.head (numbering_of old.cursor.connections) v.0 c.take.result (c.take.ensures.fault v.0 begins) not)
