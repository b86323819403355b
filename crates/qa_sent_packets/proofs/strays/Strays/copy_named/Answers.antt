use Rattle.std.proofs.Common.{◌≡◌, ◌∙◌, ◌++◌, [], filter, sym, ap}
use Rattle.std.proofs.lemmas.List.{append-nil}
use Rattle.std.proofs.lemmas.List.Elements.{filter_agree}
use Rattle.qa_base.specs.values.Events.{is_named}
use Rattle.qa_sent_packets.specs.Naming.{turned}
use Rattle.qa_sent_packets.specs.declared.packet.SentPacket.{SentPacket}
use Rattle.qa_sent_packets.proofs.Counted.{ok_then}
use Rattle.qa_sent_packets.proofs.Stretches.{named_turned}
use Rattle.qa_sent_packets.proofs.strays.Strays.copy_named.Goals as goal

pub returns-clause-found : goal.returns-clause-found
returns-clause-found c =
    let ps = c.args.self.now in
    let found = c.args.found.now.items in
    let spans = c.args.spans.now in
    let turn = turned c.args.falling spans in
    ok_then c.copy_all.result (c.copy_all.new.found.items ≡ found ++ filter (λ p. is_named turn p.number) ps) (c.copy_all.new.found.items ≡ found ++ filter (λ p. is_named spans p.number) ps)
    (λ is. is ∙ ap (λ qs. found ++ qs) (filter_agree (λ p. is_named turn p.number) (λ p. is_named spans p.number) (λ p. sym (named_turned c.args.falling spans p.number)) ps)) c.copy_all.ensures

pub returns-then-are_below-clause-found : goal.returns-then-are_below-clause-found
returns-then-are_below-clause-found c =
    let ps = c.args.self.now in
    let found = c.args.found.now.items in
    let spans = c.args.spans.now in
    let turn = turned c.args.falling spans in
    let none : filter (λ (p : SentPacket). is_named turn p.number) ps ≡ [] = c.are_below.ensures c.if-are_below.true in
    sym (ap (λ qs. found ++ qs) (filter_agree (λ p. is_named spans p.number) (λ p. is_named turn p.number) (λ p. named_turned c.args.falling spans p.number) ps ∙ none) ∙ append-nil found)
