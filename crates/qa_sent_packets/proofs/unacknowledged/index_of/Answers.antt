use Rattle.std.proofs.Common.{◌<◌, length, arith}
use Rattle.qa_sent_packets.proofs.Rising.{leaves_at}
use Rattle.qa_sent_packets.proofs.unacknowledged.index_of.Goals as goal

pub returns-then-index-number : goal.returns-then-index-number
returns-then-index-number c =
    let within : c.loop-i.i < length c.args.recent.now.items = omega (arith, c.loop-i-test.true, c.args.recent.now.ok.0) in
    (within, leaves_at c.args.number c.loop-i.i c.args.recent.now.items c.index.result.now _ within c.index.ensures c.if-index-number.true c.loop-i.invariant.same)
