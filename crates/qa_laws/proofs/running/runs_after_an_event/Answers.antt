use Rattle.qa_laws.proofs.machine.NumberRuns as numbers
use Rattle.qa_laws.proofs.running.runs_after_an_event.Goals as goal

pub returns : goal.returns
returns c = record { sent = numbers.runs_sent; other = numbers.runs_stay }
