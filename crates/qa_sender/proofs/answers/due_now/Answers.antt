use Rattle.std.proofs.Common.{◌∙◌}
use Rattle.qa_sender.proofs.connection_lemmas.Due.{anti_deadlock_is, deadline_is}
use Rattle.qa_sender.proofs.answers.due_now.Goals as goal

pub returns : goal.returns
returns c = λ s h of run stands.
    c.or.ensures
    ∙ deadline_is s h c.due_by_packets.result c.anti_deadlock.result (c.due_by_packets.ensures s h of run stands) (c.anti_deadlock.ensures ∙ anti_deadlock_is c.args.connection.now s h of run)
