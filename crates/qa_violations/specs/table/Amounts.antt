-- By how much an event violates a rule that it breaks.
use Rattle.std.specs.Prelude.{ℕ, min, max, ◌+◌, ◌-◌, ◌^◌, Option, Some, None}
use Rattle.qa_base.specs.declared.event.Event.{Event}
use Rattle.qa_base.specs.declared.event.Event.TheVariants.{Metrics}
use Rattle.qa_base.specs.declared.rule.Field.{Field}
use Rattle.qa_base.specs.declared.rule.Rule.{Rule}
use Rattle.qa_base.specs.declared.rule.Rule.TheVariants as rule
use Rattle.qa_base.specs.declared.totals.Totals.{Totals}
use Rattle.qa_base.specs.machine.Rtt.{distance}
use Rattle.qa_base.specs.values.Events.{time_of}
use Rattle.qa_ledger.specs.declared.causes.cause.Cause.{Cause}
use Rattle.qa_ledger.specs.declared.causes.cause.Cause.TheVariants as cause
use Rattle.qa_explain.specs.text.Deadlines.{due_time}
use Rattle.qa_explain.specs.text.Sending.{size_of}
use Rattle.qa_explain.specs.text.Values.{held_of, reported_of}

-- ---- V8

-- the most that is counted of bytes, far more than a trace can send
abbrev pub most_bytes : ℕ
most_bytes = 2 ^ 128 - 1

-- by how many bytes these and those that were spent are past the allowance; none where there was no
-- allowance
abbrev pub past_allowance : ℕ → Option ℕ → ℕ → Option ℕ
past_allowance allowance None size = None
past_allowance allowance (Some spent) size = Some (min (spent + size) most_bytes - allowance)

-- ---- V16

-- how far two values are from each other, where there are two
abbrev pub gap : Option ℕ → Option ℕ → Option ℕ
gap (Some reported) (Some held) = Some (distance reported held)
gap _ _ = None

abbrev pub metric_amount : Field → Event → Totals → Option ℕ
metric_amount f (Metrics time values) held = gap (reported_of f values) (held_of f held)
metric_amount f _ held = None

-- ---- V19

-- by how much a reported window is above two datagrams and what was acknowledged since
abbrev pub past_collapse : ℕ → Option ℕ → Option ℕ → Option ℕ
past_collapse least (Some acknowledged) (Some reported) = Some (reported - (least + acknowledged))
past_collapse least _ _ = None

-- ---- each rule

-- by how much the event violates the rule, which it breaks for this cause
abbrev pub amount : Event → Rule → Cause → Option ℕ
amount e rule.PastWindow (cause.PastWindow in_flight window overshoot) =
    Some (in_flight + size_of e - window)
amount e rule.PastProbe (cause.PastProbe allowance spent) =
    past_allowance allowance spent (size_of e)
amount e rule.TimerEarly (cause.TimerEarly due basis early) = Some (due_time due - time_of e)
amount e (rule.Metric f) (cause.Metric held by) = metric_amount f e held
amount e rule.TimerLate (cause.TimerLate due since limit) =
    Some (time_of e - max (due_time due) since)
amount e rule.CollapseMissing (cause.CollapseMissing least acknowledged slack reported) =
    past_collapse least acknowledged reported
amount e r k = None
