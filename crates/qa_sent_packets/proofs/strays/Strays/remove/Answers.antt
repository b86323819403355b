use Rattle.std.proofs.Common.{◌∙◌, ap}
use Rattle.qa_sent_packets.specs.Strays.{without_number}
use Rattle.qa_sent_packets.proofs.Filed.{are_filed_without}
use Rattle.qa_sent_packets.proofs.strays.Strays.remove.Goals as goal

pub invariant_of-self : goal.invariant_of-self
invariant_of-self c = (are_filed_without c.args.number c.self.inside.packets.entries c.remove.new.self.entries c.remove.ensures.entries c.self.invariant).0

pub returns : goal.returns
returns c = (are_filed_without c.args.number c.self.inside.packets.entries c.remove.new.self.entries c.remove.ensures.entries c.self.invariant).1 ∙ ap (without_number c.args.number) c.self.view_is
