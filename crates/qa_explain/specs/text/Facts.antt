-- The facts of a cause, a line each.
use Rattle.std.specs.Prelude.{ℕ, List, [], ◌++◌}
use Rattle.qa_base.specs.declared.event.Event.{Event}
use Rattle.qa_ledger.specs.declared.causes.cause.Cause.{Cause}
use Rattle.qa_ledger.specs.declared.causes.cause.Cause.TheVariants as cause
use Rattle.qa_explain.specs.text.Deadlines.{early_text, late_text, set_text}
use Rattle.qa_explain.specs.text.Reports.{collapse_text, metrics_text}
use Rattle.qa_explain.specs.text.Runs.{counted_text, differing_text, nameable_text, owed_text}
use Rattle.qa_explain.specs.text.Sending.{due_probe_text, greatest_text, probe_text, recovery_text}
use Rattle.qa_explain.specs.text.Sending.{unsent_text, window_text}

unfoldable pub facts_text : Event → Cause → List ℕ
facts_text e (cause.TimeBack before) = []
facts_text e (cause.LossOwed o) = owed_text o
facts_text e (cause.LossNotOwed o f k) = nameable_text o f ++ counted_text k
facts_text e (cause.LossSet o f unnamed unowed k) =
    nameable_text o f ++ differing_text unnamed unowed ++ counted_text k
facts_text e cause.SpaceGone = []
facts_text e (cause.NumberNotHigher greatest) = greatest_text e greatest
facts_text e (cause.PastWindow in_flight window overshoot) =
    window_text e in_flight window overshoot
facts_text e (cause.PastProbe allowance spent) = probe_text e allowance spent
facts_text e (cause.PastRecovery spent) = recovery_text spent
facts_text e (cause.AckUnsent unsent) = unsent_text e unsent
facts_text e cause.TimerNotSet = []
facts_text e (cause.TimerOther due) = set_text due
facts_text e (cause.TimerEarly due b early) = early_text due b
facts_text e (cause.ProbeOwed s) = due_probe_text s
facts_text e cause.NotConfirmed = []
facts_text e (cause.Metric held by) = metrics_text e held by
facts_text e (cause.OwedAtEnd o) = owed_text o
facts_text e (cause.TimerLate due since limit) = late_text e due since limit
facts_text e (cause.CollapseMissing least acknowledged slack reported) =
    collapse_text least acknowledged slack reported
