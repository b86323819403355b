use Rattle.std.proofs.Common.{◌∙◌, ◌<◌, ◌+◌, ℕ, List, ◌∷◌, drop, length, sym, ap, subst, arith}
use Rattle.qa_base.specs.values.Events.{is_named}
use Rattle.qa_sent_packets.specs.Naming.{AreRisingFrom, turned}
use Rattle.qa_sent_packets.proofs.Stretches.{begins_first, left_from, stretch_alike}
use Rattle.qa_sent_packets.proofs.named.NamedNumbers.next_stretch.Goals as goal

pub returns-clause-stretch : goal.returns-clause-stretch
returns-clause-stretch c =
    let spans = c.args.spans.now in
    let falling = c.args.self.now.falling in
    let from = c.args.self.now.from in
    let at = c.first_left-self.result in
    let span = c.nth-first.result in
    let rest = drop (at + 1) (turned falling spans) in
    let left = c.first_left-self.ensures in
    let within : at < length spans = (let low = left.within in let other = c.if-self-spans.false in omega (arith, low, other)) in
    let first = left_from falling spans at span within c.nth-first.ensures in
    stretch_alike (is_named (span ∷ rest)) (is_named spans) from c.from.result
    (λ n low. ap (λ (ss : List (ℕ × ℕ)). is_named ss n) (sym first) ∙ (sym (left.left n low) ∙ sym (c.requires.left n low)))
    (begins_first span rest from c.from.result (subst (AreRisingFrom 0) first (left.order (c.requires.order c.if-not-self.false)))
    (c.from.ensures.some (left.reached span rest first)) c.from.ensures.stretch)
