use Rattle.std.proofs.Common.{◌∙◌, sym, ap}
use Rattle.std.specs.List.{list_any}
use Rattle.qa_base.specs.values.Events.{declares_lost}
use Rattle.qa_reference.proofs.Followed.{followed_is}
use Rattle.qa_reference.proofs.settled.is_declared_lost.Goals as goal

pub returns : goal.returns
returns c =
    let test = declares_lost c.args.packet.space c.args.packet.number in
    c.some_declares_lost.ensures ∙ (ap (list_any test) c.behind.ensures ∙ sym (followed_is test c.args.events.now c.args.packet))
