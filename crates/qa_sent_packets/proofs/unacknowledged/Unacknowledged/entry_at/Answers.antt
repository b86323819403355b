use Rattle.std.proofs.Common.{◌∙◌, sym}
use Rattle.qa_sent_packets.proofs.Rising.{entry_is, entry_is_none, none_from}
use Rattle.qa_sent_packets.proofs.unacknowledged.Unacknowledged.entry_at.Goals as goal

pub returns-in-None : goal.returns-in-None
returns-in-None c = sym (none_from c.args.number c.args.number c.args.self.now.entries (sym c.first_from.ensures.first ∙ c.in-None.is))

pub returns-then-found-number : goal.returns-then-found-number
returns-then-found-number c = sym (entry_is c.args.number c.args.self.now.entries c.in-Some.found (sym c.first_from.ensures.first ∙ c.in-Some.is) c.if-found-number.true)

pub returns-else-found-number : goal.returns-else-found-number
returns-else-found-number c =
    sym (entry_is_none c.args.number c.args.self.now.entries c.in-Some.found (sym c.first_from.ensures.first ∙ c.in-Some.is) c.in-Some.ensures.clear c.if-found-number.false)
