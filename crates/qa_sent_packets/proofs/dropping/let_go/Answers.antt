use Rattle.std.proofs.Common.{◌≡◌, ◌∙◌, ◌∷◌, true, List, sym, ap, subst, add-one}
use Rattle.qa_base.specs.declared.space.Space.TheVariants.{Initial, Handshake, App}
use Rattle.qa_sent_packets.specs.Dropping.{is_first_shed}
use Rattle.qa_sent_packets.specs.Held.{IsSpacePackets}
use Rattle.qa_sent_packets.specs.declared.packet.SentPacket.{SentPacket}
use Rattle.qa_sent_packets.proofs.Dropped.{some_first, whole_first}
use Rattle.qa_sent_packets.proofs.dropping.let_go.Goals as goal

pub drop_first-requires : goal.drop_first-requires
drop_first-requires c =
    let p = c.index.result.now in
    let qs = c.args.queue.now.packets.items in
    let items : qs ≡ p ∷ c.pop_front.new.self.items = whole_first qs p (some_first qs c.requires.first) c.index.ensures ∙ ap (λ xs. p ∷ xs) (sym c.pop_front.ensures.rest) in
    subst (λ (xs : List SentPacket). is_first_shed xs ≡ true) items c.requires.first

pub drop_first-requires-2 : goal.drop_first-requires-2
drop_first-requires-2 c =
    let p = c.index.result.now in
    let qs = c.args.queue.now.packets.items in
    let items : qs ≡ p ∷ c.pop_front.new.self.items = whole_first qs p (some_first qs c.requires.first) c.index.ensures ∙ ap (λ xs. p ∷ xs) (sym c.pop_front.ensures.rest) in
    subst (λ (xs : List SentPacket). is_first_shed xs ≡ true) items c.requires.first

pub drop_first-requires-3 : goal.drop_first-requires-3
drop_first-requires-3 c =
    let p = c.index.result.now in
    let qs = c.args.queue.now.packets.items in
    let items : qs ≡ p ∷ c.pop_front.new.self.items = whole_first qs p (some_first qs c.requires.first) c.index.ensures ∙ ap (λ xs. p ∷ xs) (sym c.pop_front.ensures.rest) in
    subst (λ (xs : List SentPacket). is_first_shed xs ≡ true) items c.requires.first

pub returns-clause-initial : goal.returns-clause-initial
returns-clause-initial c = λ before.
    let p = c.index.result.now in
    let qs = c.args.queue.now.packets.items in
    let items : qs ≡ p ∷ c.pop_front.new.self.items = whole_first qs p (some_first qs c.requires.first) c.index.ensures ∙ ap (λ xs. p ∷ xs) (sym c.pop_front.ensures.rest) in
    let d = c.args.queue.now.dropped in
    c.drop_first.ensures d c.pop_front.new.self.items (add-one d) (subst (λ (xs : List SentPacket). IsSpacePackets Initial d xs c.args.by_space.now.initial) items before)

pub returns-clause-handshake : goal.returns-clause-handshake
returns-clause-handshake c = λ before.
    let p = c.index.result.now in
    let qs = c.args.queue.now.packets.items in
    let items : qs ≡ p ∷ c.pop_front.new.self.items = whole_first qs p (some_first qs c.requires.first) c.index.ensures ∙ ap (λ xs. p ∷ xs) (sym c.pop_front.ensures.rest) in
    let d = c.args.queue.now.dropped in
    c.drop_first-2.ensures d c.pop_front.new.self.items (add-one d) (subst (λ (xs : List SentPacket). IsSpacePackets Handshake d xs c.args.by_space.now.handshake) items before)

pub returns-clause-app : goal.returns-clause-app
returns-clause-app c = λ before.
    let p = c.index.result.now in
    let qs = c.args.queue.now.packets.items in
    let items : qs ≡ p ∷ c.pop_front.new.self.items = whole_first qs p (some_first qs c.requires.first) c.index.ensures ∙ ap (λ xs. p ∷ xs) (sym c.pop_front.ensures.rest) in
    let d = c.args.queue.now.dropped in
    c.drop_first-3.ensures d c.pop_front.new.self.items (add-one d) (subst (λ (xs : List SentPacket). IsSpacePackets App d xs c.args.by_space.now.app) items before)
