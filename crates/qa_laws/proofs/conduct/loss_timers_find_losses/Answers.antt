use Rattle.qa_laws.proofs.machine.ConductOfTimers as lemmas
use Rattle.qa_laws.proofs.conduct.loss_timers_find_losses.Goals as goal

pub returns : goal.returns
returns c = lemmas.timer_owes
