use Rattle.std.proofs.Common.{◌≡◌, ◌∙◌, Err, ap, sym}
use Rattle.std.proofs.lemmas.Bool.{false≢true}
use Rattle.std.proofs.lemmas.Result.{IfOk-weaker}
use Rattle.qa_convert.specs.declared.converting.NoMore.TheVariants as more
use Rattle.qa_convert.specs.declared.surveying.NoRecord.TheVariants as no_record
use Rattle.qa_logs.specs.Unread.{IsNotJson}
use Rattle.qa_logs.proofs.tracing.WrittenTaker.take.Goals as goal

pub returns-in-Err-Record-NotJson : goal.returns-in-Err-Record-NotJson
returns-in-Err-Record-NotJson c =
    let is : c.push.result ≡ Err (more.Record no_record.NotJson) = c.in-Err-Record-NotJson.is ∙ ap Err (c.in-Err-Record-NotJson.field-0-is ∙ ap more.Record c.in-Err-Record-NotJson.field-0-0-is) in
    let kept = c.push.ensures.json is in
    let not : IsNotJson c.args.text.bytes.now = rw is at c.push.ensures.fault in
    let read = rw kept at c.pass.ensures.instead not in
    IfOk-weaker c.pass.result _ _ (λ wants reads. record {
      trace = c.pass.ensures.trace;
      is_at_head = c.pass.ensures.is_at_head ∙ c.if-self.false;
      head = λ is. absurd (false≢true (sym c.if-self.false ∙ is));
      other = λ not. absurd (not c.if-text-self.false);
      own = λ is same. reads;
    }) read
