use Rattle.std.proofs.Common.{◌≡◌, length, arith}
use Rattle.qa_fast_writer.proofs.Closed.{closed}
use Rattle.qa_fast_writer.proofs.events.push_event.Goals as goal

pub returns-clause-text : goal.returns-clause-text
returns-clause-text c =
    let at : length c.as_slice-begin.result.now ≡ length c.args.out.now.items = grind arith in
    closed c.args.event.now c.args.out.now.items _ _ _ at c.in_ok-put_event.ensures.text c.in_ok-extend_from_slice.ensures.items
