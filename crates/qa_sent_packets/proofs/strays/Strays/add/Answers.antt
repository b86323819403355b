use Rattle.std.proofs.Common.{◌∙◌, ◌∷◌, ◌++◌, [], ap}
use Rattle.qa_sent_packets.proofs.Filed.{are_filed_added}
use Rattle.qa_sent_packets.proofs.strays.Strays.add.Goals as goal

pub invariant_of-self-2 : goal.invariant_of-self-2
invariant_of-self-2 c =
    (are_filed_added c.self.inside.packets.entries c.insert.new.self.entries c.get.result c.args.packet.now c.get.ensures.value c.in_ok-insert.ensures.entries c.self.invariant (rw (← c.self.view_is) at c.requires)).0

pub returns-clause-ok : goal.returns-clause-ok
returns-clause-ok c =
    (are_filed_added c.self.inside.packets.entries c.insert.new.self.entries c.get.result c.args.packet.now c.get.ensures.value c.in_ok-insert.ensures.entries c.self.invariant (rw (← c.self.view_is) at c.requires)).1
    ∙ ap (λ ps. ps ++ c.args.packet.now ∷ []) c.self.view_is
