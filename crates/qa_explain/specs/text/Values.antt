-- The values of a report, and amounts with their units.
use Rattle.std.specs.Prelude.{ℕ, ◌==◌, Bool, true, false, codes, List, [], ◌++◌, Option, Some, None}
use Rattle.std.specs.Prelude.{if◌then◌else◌}
use Rattle.qa_base.specs.declared.event.Event.{Event}
use Rattle.qa_base.specs.declared.event.Event.TheVariants.{Metrics}
use Rattle.qa_base.specs.declared.event.MetricValues.{MetricValues}
use Rattle.qa_base.specs.declared.rule.Field.{Field}
use Rattle.qa_base.specs.declared.rule.Field.TheVariants as field
use Rattle.qa_base.specs.declared.rule.Rule.{Rule}
use Rattle.qa_base.specs.declared.rule.Rule.TheVariants as rule
use Rattle.qa_base.specs.declared.space.TimeUnit.{TimeUnit}
use Rattle.qa_base.specs.declared.totals.Totals.{Totals}
use Rattle.qa_explain.specs.text.Pieces.{numbered}
use Rattle.qa_explain.specs.text.Times.{time_text}

abbrev pub reported_of : Field → MetricValues → Option ℕ
reported_of field.Window values = values.window
reported_of field.Ssthresh values = values.ssthresh
reported_of field.BytesInFlight values = values.bytes_in_flight
reported_of field.LatestRtt values = values.latest_rtt
reported_of field.MinRtt values = values.min_rtt
reported_of field.SmoothedRtt values = values.smoothed_rtt
reported_of field.Rttvar values = values.rttvar

-- what an event reports, which may be no report
abbrev pub reported_in : Field → Event → Option ℕ
reported_in f (Metrics time values) = reported_of f values
reported_in f _ = None

abbrev pub held_of : Field → Totals → Option ℕ
held_of field.Window held = Some held.window
held_of field.Ssthresh held = held.ssthresh
held_of field.BytesInFlight held = Some held.bytes_in_flight
held_of field.LatestRtt held = Some held.latest_rtt
held_of field.MinRtt held = Some held.min_rtt
held_of field.SmoothedRtt held = Some held.smoothed_rtt
held_of field.Rttvar held = Some held.rttvar

-- ---- the unit

-- the value is a number of bytes, and else a time
abbrev pub is_of_bytes : Field → Bool
is_of_bytes field.Window = true
is_of_bytes field.Ssthresh = true
is_of_bytes field.BytesInFlight = true
is_of_bytes _ = false

-- the amounts of the rule are in bytes, and else in the unit of times
abbrev pub is_in_bytes : Rule → Bool
is_in_bytes rule.PastWindow = true
is_in_bytes rule.PastProbe = true
is_in_bytes rule.CollapseMissing = true
is_in_bytes (rule.Metric f) = is_of_bytes f
is_in_bytes _ = false

abbrev pub bytes_word : ℕ → List ℕ
bytes_word n = if n == 1 then codes " byte" else codes " bytes"

unfoldable pub bytes_text : ℕ → List ℕ
bytes_text n = numbered [] n ++ bytes_word n

-- an amount of the rule
abbrev pub amount_text : TimeUnit → Rule → ℕ → List ℕ
amount_text u r n = if is_in_bytes r then bytes_text n else time_text u n
