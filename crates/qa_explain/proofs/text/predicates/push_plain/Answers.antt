use Rattle.qa_explain.specs.text.Predicates.{plain_predicate}
use Rattle.qa_explain.proofs.text.predicates.push_plain.Goals as goal

pub returns-in-TimeBack : goal.returns-in-TimeBack
unfolding plain_predicate
returns-in-TimeBack c = rw c.in-TimeBack.is c.push_words.ensures

pub returns-in-LossOwed : goal.returns-in-LossOwed
unfolding plain_predicate
returns-in-LossOwed c = rw c.in-LossOwed.is c.push_words-in-LossOwed.ensures

pub returns-in-LossNotOwed : goal.returns-in-LossNotOwed
unfolding plain_predicate
returns-in-LossNotOwed c = rw c.in-LossNotOwed.is c.push_words-in-LossNotOwed.ensures

pub returns-in-LossSet : goal.returns-in-LossSet
unfolding plain_predicate
returns-in-LossSet c = rw c.in-LossSet.is c.push_words-in-LossSet.ensures

pub returns-in-SpaceGone : goal.returns-in-SpaceGone
unfolding plain_predicate
returns-in-SpaceGone c = rw c.in-SpaceGone.is c.push_words-in-SpaceGone.ensures

pub returns-in-NumberNotHigher : goal.returns-in-NumberNotHigher
unfolding plain_predicate
returns-in-NumberNotHigher c = rw c.in-NumberNotHigher.is c.push_words-in-NumberNotHigher.ensures

pub returns-in-PastWindow : goal.returns-in-PastWindow
unfolding plain_predicate
returns-in-PastWindow c = rw c.in-PastWindow.is c.push_words-in-PastWindow.ensures

pub returns-in-PastProbe : goal.returns-in-PastProbe
unfolding plain_predicate
returns-in-PastProbe c = rw c.in-PastProbe.is c.push_words-in-PastProbe.ensures

pub returns-in-PastRecovery : goal.returns-in-PastRecovery
unfolding plain_predicate
returns-in-PastRecovery c = rw c.in-PastRecovery.is c.push_words-in-PastRecovery.ensures

pub returns-in-AckUnsent : goal.returns-in-AckUnsent
unfolding plain_predicate
returns-in-AckUnsent c = rw c.in-AckUnsent.is c.push_words-in-AckUnsent.ensures

pub returns-in-TimerNotSet : goal.returns-in-TimerNotSet
unfolding plain_predicate
returns-in-TimerNotSet c = rw c.in-TimerNotSet.is c.push_fired.ensures

pub returns-in-TimerOther : goal.returns-in-TimerOther
unfolding plain_predicate
returns-in-TimerOther c = rw c.in-TimerOther.is c.push_fired-in-TimerOther.ensures

pub returns-in-TimerEarly : goal.returns-in-TimerEarly
unfolding plain_predicate
returns-in-TimerEarly c = rw c.in-TimerEarly.is c.push_fired-in-TimerEarly.ensures

pub returns-in-ProbeOwed : goal.returns-in-ProbeOwed
unfolding plain_predicate
returns-in-ProbeOwed c = rw c.in-ProbeOwed.is c.push_fired-in-ProbeOwed.ensures

pub returns-in-NotConfirmed : goal.returns-in-NotConfirmed
unfolding plain_predicate
returns-in-NotConfirmed c = rw c.in-NotConfirmed.is c.push_words-in-NotConfirmed.ensures

pub returns-in-Metric : goal.returns-in-Metric
unfolding plain_predicate
returns-in-Metric c = rw (c.in-Metric.is, ← c.name.ensures) c.push_name.ensures

pub returns-in-OwedAtEnd : goal.returns-in-OwedAtEnd
unfolding plain_predicate
returns-in-OwedAtEnd c = rw c.in-OwedAtEnd.is c.push_words-in-OwedAtEnd.ensures

pub returns-in-TimerLate : goal.returns-in-TimerLate
unfolding plain_predicate
returns-in-TimerLate c = rw c.in-TimerLate.is c.push_words-in-TimerLate.ensures

pub returns-in-CollapseMissing : goal.returns-in-CollapseMissing
unfolding plain_predicate
returns-in-CollapseMissing c = rw c.in-CollapseMissing.is c.push_words-in-CollapseMissing.ensures
