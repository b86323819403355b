use Rattle.std.proofs.Common.{sym, ◌∙◌}
use Rattle.qa_base.specs.declared.event.Ack.{Ack as Acknowledgment}
use Rattle.qa_fast_reader.proofs.Saying.{says_ack}
use Rattle.qa_fast_reader.proofs.found.Found.ack.Goals as goal

pub returns : goal.returns
returns c =
    let ack : Acknowledgment = record {
      time = c.in_ok-time.time;
      space = c.in_ok-space.space;
      ranges = c.in_ok-ranges.ranges;
      delay = c.unwrap_or-delay.result;
      app_limited = c.unwrap_or-app_limited.result;
    } in
    says_ack c.args.self.now ack
    c.requires c.in_ok-time.ensures c.in_ok-space.was (sym c.take.ensures.value ∙ c.in_ok-ranges.was) c.unwrap_or-delay.ensures c.unwrap_or-delay.type_inv c.unwrap_or-app_limited.ensures
