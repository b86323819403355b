use Rattle.std.proofs.Common.{◌∙◌, ◌||◌, sym, ap}
use Rattle.qa_base.specs.machine.Packets.{history_of}
use Rattle.qa_reference.specs.Looks.{is_named_by}
use Rattle.qa_reference.proofs.declared.is_taken.Goals as goal

pub returns-then-is_found : goal.returns-then-is_found
returns-then-is_found c =
    let named = is_named_by (history_of c.args.before.now) c.args.look c.args.event.now c.args.packet in
    c.if-is_found.true ∙ sym (ap (λ b. b || named) (sym c.is_found.ensures ∙ c.if-is_found.true))

pub returns-else-is_found : goal.returns-else-is_found
returns-else-is_found c =
    let named = is_named_by (history_of c.args.before.now) c.args.look c.args.event.now c.args.packet in
    c.is_named_free.ensures ∙ sym (ap (λ b. b || named) (sym c.is_found.ensures ∙ c.if-is_found.false))
