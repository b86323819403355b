use Rattle.std.proofs.Common.{◌∙◌, sym}
use Rattle.std.specs.Option.{option_copied}
use Rattle.qa_sender.proofs.Answered.{by_app_held}
use Rattle.qa_sender.proofs.answers.due_by_packets.Goals as goal

pub returns-then-is_idle-2 : goal.returns-then-is_idle-2
returns-then-is_idle-2 c = λ s h of run stands.
    c.app_deadline.ensures
    ∙ by_app_held c.args.connection.now s h c.args.packets.now of run stands (sym c.is_idle.ensures ∙ c.if-is_idle.true) (sym c.is_idle-then-is_idle.ensures ∙ c.if-is_idle-2.true)
    c.awaits-awaits.result (option_copied c.first_flying_ref.result) c.awaits-awaits.ensures c.first_flying_ref.ensures
