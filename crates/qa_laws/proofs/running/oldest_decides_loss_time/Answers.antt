use Rattle.qa_base.proofs.history.Deadline as lemmas
use Rattle.qa_laws.proofs.running.oldest_decides_loss_time.Goals as goal
use Rattle.qa_base.proofs.machine.RunLaws.{tolerated_run_of}

pub returns : goal.returns
returns c = λ s h run. lemmas.loss_due_by_next s h (tolerated_run_of s h run)
