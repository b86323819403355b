use Rattle.std.proofs.Common.{◌≡◌, ◌∙◌, ◌∷◌, ◌++◌, ◌+◌, [], true, List, drop, filter, sym, ap, subst, add-one}
use Rattle.qa_base.specs.values.PerSpace.{of_space}
use Rattle.qa_sent_packets.specs.Dropping.{is_first_shed}
use Rattle.qa_sent_packets.specs.Fates.{is_open_in}
use Rattle.qa_sent_packets.specs.Held.{AreAbove, Held, IsSound}
use Rattle.qa_sent_packets.specs.declared.packet.SentPacket.{SentPacket}
use Rattle.qa_sent_packets.proofs.Dropped.{sheds_first, sound_dropped}
use Rattle.qa_sent_packets.proofs.packets.SentPackets.shed_first.Goals as goal

pub may_leave-requires : goal.may_leave-requires
may_leave-requires c =
    let before = c.self.inside in
    let items = rw (← c.self.view_is) at c.requires in
    (subst (λ (ps : List SentPacket). AreAbove before.strays ps) items c.self.invariant.above).0

pub let_go-requires-clause-first : goal.let_go-requires-clause-first
let_go-requires-clause-first c =
    let items = rw (← c.self.view_is) at c.requires in
    subst (λ (ps : List SentPacket). is_first_shed ps ≡ true) (sym items) (c.may_leave.ensures.shed c.if-not-may_leave.false)

pub invariant_of-self-2 : goal.invariant_of-self-2
invariant_of-self-2 c =
    let before = c.self.inside in
    let p = c.args.packet.now in
    let ps = drop 1 before.queue.packets.items in
    let items = rw (← c.self.view_is) at c.requires in
    let sound = subst (λ (qs : List SentPacket). IsSound before.queue.dropped qs before.losses before.by_space before.strays) items c.self.invariant in
    rw (c.let_go.ensures.packets, c.let_go.ensures.dropped)
    (sound_dropped before.queue.dropped (before.queue.dropped + 1) p ps before.losses before.by_space c.let_go.new.by_space before.strays c.may_leave.new.strays
    (c.may_leave.ensures.shed c.if-not-may_leave.false) (add-one before.queue.dropped) sound (c.may_leave.ensures.aside c.if-not-may_leave.false)
    (rw (c.let_go.ensures.packets, c.let_go.ensures.dropped) at (c.let_go.ensures.initial c.self.invariant.initial))
    (rw (c.let_go.ensures.packets, c.let_go.ensures.dropped) at (c.let_go.ensures.handshake c.self.invariant.handshake))
    (rw (c.let_go.ensures.packets, c.let_go.ensures.dropped) at (c.let_go.ensures.app c.self.invariant.app)))

pub returns-clause-sheds : goal.returns-clause-sheds
returns-clause-sheds c = λ is.
    sheds_first c.args.self.now _ c.args.packet.now (drop 1 c.args.self.now.packets) c.requires
    (c.let_go.ensures.packets ∙ ap (λ (h : Held). drop 1 h.packets) c.self.view_is)
    (c.let_go.ensures.dropped ∙ ap (λ (h : Held). h.dropped + 1) c.self.view_is)
    (c.may_leave.ensures.shed c.if-not-may_leave.false)
    (λ s. c.may_leave.ensures.aside c.if-not-may_leave.false s ∙ ap (λ (h : Held). of_space s h.strays ++ filter (is_open_in s) (c.args.packet.now ∷ [])) c.self.view_is)
