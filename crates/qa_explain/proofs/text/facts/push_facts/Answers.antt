use Rattle.qa_explain.specs.text.Facts.{facts_text}
use Rattle.qa_explain.proofs.text.facts.push_facts.Goals as goal

pub returns-in-NumberNotHigher : goal.returns-in-NumberNotHigher
unfolding facts_text
returns-in-NumberNotHigher c = rw c.in-NumberNotHigher.is c.push_greatest.ensures

pub returns-in-PastWindow : goal.returns-in-PastWindow
unfolding facts_text
returns-in-PastWindow c = rw c.in-PastWindow.is c.push_window.ensures

pub returns-in-PastProbe : goal.returns-in-PastProbe
unfolding facts_text
returns-in-PastProbe c = rw c.in-PastProbe.is c.push_probe.ensures

pub returns-in-PastRecovery : goal.returns-in-PastRecovery
unfolding facts_text
returns-in-PastRecovery c = rw c.in-PastRecovery.is c.push_recovery.ensures

pub returns-in-AckUnsent : goal.returns-in-AckUnsent
unfolding facts_text
returns-in-AckUnsent c = rw c.in-AckUnsent.is c.push_unsent.ensures

pub returns-in-TimerOther : goal.returns-in-TimerOther
unfolding facts_text
returns-in-TimerOther c = rw c.in-TimerOther.is c.push_set.ensures

pub returns-in-TimerEarly : goal.returns-in-TimerEarly
unfolding facts_text
returns-in-TimerEarly c = rw c.in-TimerEarly.is c.push_early.ensures

pub returns-in-ProbeOwed : goal.returns-in-ProbeOwed
unfolding facts_text
returns-in-ProbeOwed c = rw c.in-ProbeOwed.is c.push_due_probe.ensures

pub returns-in-Metric : goal.returns-in-Metric
unfolding facts_text
returns-in-Metric c = rw c.in-Metric.is c.push_metrics.ensures

pub returns-in-TimerLate : goal.returns-in-TimerLate
unfolding facts_text
returns-in-TimerLate c = rw c.in-TimerLate.is c.push_late.ensures

pub returns-in-CollapseMissing : goal.returns-in-CollapseMissing
unfolding facts_text
returns-in-CollapseMissing c = rw c.in-CollapseMissing.is c.push_collapse.ensures
