-- The facts of a cause.
use Rattle.std.specs.Prelude.{ℕ, codes, List, [], ◌++◌, Option}
use Rattle.json.specs.Token.{Token}
use Rattle.qa_base.specs.declared.event.Event.{Event}
use Rattle.qa_base.specs.declared.space.TimeUnit.{TimeUnit}
use Rattle.qa_base.specs.values.Names.{unit_name}
use Rattle.qa_ledger.specs.declared.causes.cause.Cause.{Cause}
use Rattle.qa_ledger.specs.declared.causes.cause.Cause.TheVariants as cause
use Rattle.qa_explain.specs.members.Deadlines.{due_facts, early_facts, late_facts}
use Rattle.qa_explain.specs.members.Losses.{counted, differing, nameable, owed, space_at}
use Rattle.qa_explain.specs.members.Object.{some_amount_at}
use Rattle.qa_explain.specs.members.Reports.{collapse_facts, metric_facts}
use Rattle.qa_explain.specs.members.Sending.{packet_number_at, probe_facts, recovery_facts}
use Rattle.qa_explain.specs.members.Sending.{window_facts}

abbrev pub before : TimeUnit → Option ℕ → List Token
before u time = some_amount_at (codes "before") (unit_name u) time

unfoldable pub facts : TimeUnit → Event → Cause → List Token
facts u e (cause.TimeBack time) = before u time
facts u e (cause.LossOwed o) = owed o
facts u e (cause.LossNotOwed o f k) = nameable o f ++ counted (codes "unowed_counted") k
facts u e (cause.LossSet o f unnamed unowed k) =
    nameable o f ++ differing unnamed unowed ++ counted (codes "unowed_counted") k
facts u e cause.SpaceGone = []
facts u e (cause.NumberNotHigher greatest) = packet_number_at (codes "greatest_sent") greatest
facts u e (cause.PastWindow in_flight window overshoot) = window_facts in_flight window overshoot
facts u e (cause.PastProbe allowance spent) = probe_facts allowance spent
facts u e (cause.PastRecovery spent) = recovery_facts spent
facts u e (cause.AckUnsent unsent) = packet_number_at (codes "unsent") unsent
facts u e cause.TimerNotSet = []
facts u e (cause.TimerOther due) = due_facts u due
facts u e (cause.TimerEarly due b early) = early_facts u e due b early
facts u e (cause.ProbeOwed s) = space_at (codes "probe_space") s
facts u e cause.NotConfirmed = []
facts u e (cause.Metric held by) = metric_facts u e held by
facts u e (cause.OwedAtEnd o) = owed o
facts u e (cause.TimerLate due since limit) = late_facts u e due since limit
facts u e (cause.CollapseMissing least acknowledged slack reported) =
    collapse_facts least acknowledged slack reported
