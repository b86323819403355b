use Rattle.qa_laws.proofs.machine.EarlyTimers as lemmas
use Rattle.qa_laws.proofs.conduct.early_timers_make_no_collapse.Goals as goal

pub returns : goal.returns
returns c = record { one_time = lemmas.early_finds_one_time; old = lemmas.early_finds_old_at_deadline; calm = lemmas.early_makes_no_collapse }
