use Rattle.qa_laws.proofs.machine.OrderAndTime as lemmas
use Rattle.qa_laws.proofs.definitions.order_changes_no_window.Goals as goal

pub returns : goal.returns
returns c = record { window = lemmas.same_window; ssthresh = lemmas.same_ssthresh; entry = lemmas.same_entry }
