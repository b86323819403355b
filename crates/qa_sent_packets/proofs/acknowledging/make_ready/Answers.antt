use Rattle.std.proofs.Common.{◌≤◌, ◌∙◌, ◌+◌, ◌-◌, length, ap, arith, rules}
use Rattle.std.specs.Prelude.{sum_by}
use Rattle.std.specs.Vec.{vec_capacity, vec_len}
use Rattle.qa_sent_packets.specs.Covering.{HasRoom, count_named, count_to, width}
use Rattle.qa_sent_packets.specs.Naming.{turned}
use Rattle.qa_sent_packets.proofs.Counted.{last_high, named_by_width, named_to, ok_then, room_enough, width_turned}
use Rattle.qa_sent_packets.proofs.Stretches.{length_turned}
use Rattle.qa_sent_packets.proofs.acknowledging.make_ready.Goals as goal

pub returns-clause-room : goal.returns-clause-room
returns-clause-room c =
    let ranges = turned c.args.falling c.args.spans.now in
    let last = c.nth-highest.result in
    let es = c.part.new.self.entries in
    let some : 1 ≤ length c.args.spans.now = search (rules, c.is_empty.ensures, c.if-is_empty.false) in
    let same = length_turned c.args.falling c.args.spans.now in
    let high = last_high ranges (length c.args.spans.now - 1) last c.requires.apart c.requires.ranges (omega (arith, some, same)) c.nth-highest.ensures in
    let most = named_to last.1 es ranges c.requires.apart c.requires.ranges high in
    let count = ap (λ n. count_to n es) (c.get-2.ensures.value ∙ c.hi.ensures.value) in
    let width_is = width_turned c.args.falling c.args.spans.now in
    let named = named_by_width es ranges c.part.ensures.rise in
    let enough = room_enough c.most_to-most.result (sum_by width c.args.spans.now) (count_named es ranges) (omega (arith, most, count, c.most_to-most.ensures)) (omega (arith, named, width_is)) in
    ok_then c.reserve.result (vec_len c.reserve.new.self + c.room_for.result ≤ vec_capacity c.reserve.new.self) (HasRoom (vec_len c.reserve.new.self) (vec_capacity c.reserve.new.self) es ranges)
    (λ fits. omega (arith, fits, enough, c.room_for.ensures)) c.reserve.ensures.ok
