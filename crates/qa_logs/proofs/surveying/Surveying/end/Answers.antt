use Rattle.std.proofs.Common.{subst}
use Rattle.qa_logs.specs.Surveying.{HasConnection}
use Rattle.qa_logs.proofs.surveying.Surveying.end.Goals as goal

pub returns-in-Ok : goal.returns-in-Ok
returns-in-Ok c = rw (← c.self.view_is) (record {
  last = c.end.new.taker;
  takes = c.in_ok-end.ensures.ends;
  connection = subst (λ count. HasConnection count c.self.inside.chosen.connection) c.connections-count.ensures (c.has_connection.ensures.0 c.if-not-has_connection.false);
  head = c.in_ok-head.field-0;
  is_head = c.in_ok-head.ensures;
  second = c.in-Ok.second;
  begins = rw (← c.first.view_is) c.in-Ok.ensures.begins;
  header = rw (← c.first.view_is) c.in-Ok.ensures.header;
  told = c.in-Ok.ensures.told;
  starts = c.new.ensures;
})
