-- What an event did that breaks a rule, behind what it is.
--
-- `u` is the unit of the trace's times.
use Rattle.std.specs.Prelude.{ℕ, ◌+◌, ◌-◌, nat_lt, Bool, true, false, codes, List, [], ◌++◌}
use Rattle.std.specs.Prelude.{unwrap_or, if◌then◌else◌}
use Rattle.qa_base.specs.declared.event.Event.{Event}
use Rattle.qa_base.specs.declared.rule.Rule.{Rule}
use Rattle.qa_base.specs.declared.rule.Rule.TheVariants as rule
use Rattle.qa_base.specs.declared.space.TimeUnit.{TimeUnit}
use Rattle.qa_base.specs.values.Events.{time_of}
use Rattle.qa_base.specs.values.Names.{field_name}
use Rattle.qa_ledger.specs.declared.causes.cause.Cause.{Cause}
use Rattle.qa_ledger.specs.declared.causes.cause.Cause.TheVariants as cause
use Rattle.qa_explain.specs.text.Deadlines.{due_time}
use Rattle.qa_explain.specs.text.Pieces.{named, numbered}
use Rattle.qa_explain.specs.text.Sending.{size_of}
use Rattle.qa_explain.specs.text.Times.{timed}

-- ---- by the amounts of a cause

unfoldable pub before_text : TimeUnit → ℕ → ℕ → List ℕ
before_text u time before =
    timed (codes " is at ") u time ++ timed (codes ", before the event before it at ") u before

unfoldable pub passed_text : ℕ → ℕ → List ℕ
passed_text sum window =
    numbered (codes " takes the bytes in flight to ") sum
    ++ numbered (codes ", past the window of ") window

-- where the last packet may overshoot the window, it was full before
abbrev pub window_predicate : Bool → ℕ → ℕ → List ℕ
window_predicate true sum window =
    numbered (codes " is sent where the bytes in flight have reached the window of ") window
window_predicate false sum window = passed_text sum window

-- how early a timer may be, where it may
unfoldable pub some_tolerance : TimeUnit → ℕ → List ℕ
some_tolerance u early = timed (codes " (") u early ++ codes " allowed)"

abbrev pub tolerance_text : TimeUnit → ℕ → List ℕ
tolerance_text u early = if nat_lt 0 early then some_tolerance u early else []

unfoldable pub early_predicate : TimeUnit → ℕ → ℕ → ℕ → List ℕ
early_predicate u time by early =
    timed (codes " fired ") u by ++ timed (codes " early, at ") u time ++ tolerance_text u early

-- ---- by the rule and the event's time

unfoldable pub fired_text : TimeUnit → ℕ → List ℕ → List ℕ
fired_text u time words = timed (codes " fired at ") u time ++ words

unfoldable pub plain_predicate : TimeUnit → ℕ → Rule → List ℕ
plain_predicate u time rule.TimeBack = codes " is before the event before it"
plain_predicate u time rule.LossOwed = codes " came while a loss was owed"
plain_predicate u time rule.LossNotOwed = codes " came where nothing is owed in its space"
plain_predicate u time rule.LossSet = codes " names other packets than those owed"
plain_predicate u time rule.SpaceGone = codes " came after the keys of its space were discarded"
plain_predicate u time rule.NumberNotHigher = codes " is not above all that were sent in its space"
plain_predicate u time rule.PastWindow = codes " goes past the congestion window"
plain_predicate u time rule.PastProbe = codes " goes past what a probe timeout allows"
plain_predicate u time rule.PastRecovery = codes " goes past what an entry into recovery allows"
plain_predicate u time rule.AckUnsent = codes " covers a packet that was never sent"
plain_predicate u time rule.TimerNotSet = fired_text u time (codes ", where no timer is set")
plain_predicate u time rule.TimerOther = fired_text u time (codes ", where another is set")
plain_predicate u time rule.TimerEarly = fired_text u time (codes ", before its deadline")
plain_predicate u time rule.ProbeOwed = fired_text u time (codes ", while a probe was owed")
plain_predicate u time rule.NotConfirmed = codes " came before the handshake was confirmed"
plain_predicate u time (rule.Metric f) = named (codes " differs from the model in ") (field_name f)
plain_predicate u time rule.OwedAtEnd = codes " is the last, and a loss is owed"
plain_predicate u time rule.TimerLate = codes " came after the timer should have fired"
plain_predicate u time rule.CollapseMissing =
    codes " has too great a window behind persistent congestion"

-- ---- what it did

abbrev pub predicate : TimeUnit → Event → Rule → Cause → List ℕ
predicate u e rule.TimeBack (cause.TimeBack before) = before_text u (time_of e) (unwrap_or before 0)
predicate u e rule.PastWindow (cause.PastWindow in_flight window overshoot) =
    window_predicate overshoot (in_flight + size_of e) window
predicate u e rule.TimerEarly (cause.TimerEarly due basis early) =
    early_predicate u (time_of e) (due_time due - time_of e) early
predicate u e r k = plain_predicate u (time_of e) r
