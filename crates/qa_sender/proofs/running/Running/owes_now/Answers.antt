use Rattle.std.proofs.Common.{◌∙◌, ap, nat_lt, sym}
use Rattle.qa_sender.proofs.Losses.{some_owed_is_counted}
use Rattle.qa_sender.proofs.running.Running.owes_now.Goals as goal

pub returns : goal.returns
returns c = rw (← c.self.view_is) (λ settings h is.
    ap (nat_lt 0) c.owed_count.ensures ∙ sym (some_owed_is_counted settings h is.run.run c.self.inside.machine.packets is.packets))
