use Rattle.std.proofs.Common.{◌≡◌, ◌∙◌, None, count_by, sym, ap}
use Rattle.std.specs.Prelude.{slice_range}
use Rattle.qa_sent_packets.specs.Fates.{is_owed}
use Rattle.qa_sent_packets.specs.Held.{Held}
use Rattle.qa_sent_packets.specs.Walks.{last_owed}
use Rattle.qa_sent_packets.proofs.Owed.{last_of_none, last_of_part}
use Rattle.qa_sent_packets.proofs.packets.SentPackets.last_owed.Goals as goal

pub returns : goal.returns
returns c =
    let part = c.owed_part.result in
    c.last_owed_in.ensures
    ∙ (ap (λ (h : Held). last_owed c.args.by_order None (slice_range h.packets part.start part.end)) c.self.view_is
    ∙ sym (last_of_part c.args.by_order c.args.self.now.packets part.start part.end c.owed_part.ensures))

pub returns-then-self-eq0 : goal.returns-then-self-eq0
returns-then-self-eq0 c =
    let ps = c.self.inside.queue.packets.items in
    let none : count_by (λ p. is_owed p.fate) ps ≡ 0 = sym c.self.invariant.owed.count ∙ c.if-self-eq0.true in
    last_of_none c.args.by_order ps none ∙ ap (λ (h : Held). last_owed c.args.by_order None h.packets) c.self.view_is
