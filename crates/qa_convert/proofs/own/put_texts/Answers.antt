use Rattle.std.proofs.lemmas.Result.{on_ok_weaker}
use Rattle.serde_json.specs.View.{view}
use Rattle.qa_convert.proofs.PassedOver.{own_after}
use Rattle.qa_convert.proofs.own.put_texts.Goals as goal

pub returns : goal.returns
returns c = record {
  ok = on_ok_weaker c.put.result (λ is. (view c.in_ok-list.list, is)) (rw c.name.ensures at c.put.ensures.ok);
  own =
      own_after c.put.result c.args.key (view c.in_ok-list.list) c.args.keys.now.entries c.put.new.map.entries c.in_ok-list.ensures c.requires.own
      (rw c.name.ensures at c.put.ensures.ok) c.put.ensures.err;
}
