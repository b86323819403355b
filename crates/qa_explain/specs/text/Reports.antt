-- What a sender reports, and what the machine has.
use Rattle.std.specs.Prelude.{ℕ, ◌+◌, codes, List, [], ◌++◌, Option, Some, None}
use Rattle.std.specs.Prelude.{if◌then◌else◌}
use Rattle.qa_base.specs.declared.event.Event.{Event}
use Rattle.qa_base.specs.declared.event.Event.TheVariants.{Metrics}
use Rattle.qa_base.specs.declared.event.MetricValues.{MetricValues}
use Rattle.qa_base.specs.declared.rule.Field.{Field}
use Rattle.qa_base.specs.declared.rule.Field.TheVariants as field
use Rattle.qa_base.specs.declared.totals.Totals.{Totals}
use Rattle.qa_base.specs.machine.Metrics.{differs}
use Rattle.qa_base.specs.machine.Rtt.{distance}
use Rattle.qa_base.specs.values.Names.{field_name}
use Rattle.qa_base.specs.values.Settings.{is_reported}
use Rattle.qa_ledger.specs.declared.causes.cause.Comparison.{Comparison}
use Rattle.qa_explain.specs.text.Pieces.{named, numbered}

-- ---- V16

unfoldable pub some_gap_text : ℕ → ℕ → ℕ → List ℕ
some_gap_text slack difference held =
    numbered (codes ", the model has ") held ++ numbered (codes ", difference ") difference
    ++ numbered (codes ", slack ") slack ++ codes "\n"

-- how far a reported value is from the machine's, which may be none
abbrev pub gap_text : ℕ → ℕ → Option ℕ → List ℕ
gap_text slack reported None = codes ", the model has none\n"
gap_text slack reported (Some held) = some_gap_text slack (distance reported held) held

unfoldable pub field_line : Field → ℕ → ℕ → Option ℕ → List ℕ
field_line f slack reported held =
    named (codes "  ") (field_name f) ++ numbered (codes ": reported ") reported
    ++ gap_text slack reported held

-- a value that differs by more than the slack
abbrev pub differing_text : Field → ℕ → Option ℕ → Option ℕ → List ℕ
differing_text f slack None held = []
differing_text f slack (Some reported) held =
    if differs slack (Some reported) held then field_line f slack reported held else []

unfoldable pub controller_differences : ℕ → MetricValues → Totals → List ℕ
controller_differences slack values held =
    differing_text field.Window slack values.window (Some held.window)
    ++ differing_text field.Ssthresh slack values.ssthresh held.ssthresh

unfoldable pub time_differences : ℕ → MetricValues → Totals → List ℕ
time_differences slack values held =
    differing_text field.LatestRtt slack values.latest_rtt (Some held.latest_rtt)
    ++ differing_text field.MinRtt slack values.min_rtt (Some held.min_rtt)
    ++ differing_text field.SmoothedRtt slack values.smoothed_rtt (Some held.smoothed_rtt)
    ++ differing_text field.Rttvar slack values.rttvar (Some held.rttvar)

-- each value that differs; a window that is reported is not compared, nor is its ssthresh
unfoldable pub differences : Comparison → MetricValues → Totals → List ℕ
differences by values held =
    (if is_reported by.controller then [] else controller_differences by.slack_bytes values held)
    ++ differing_text field.BytesInFlight by.slack_bytes values.bytes_in_flight
    (Some held.bytes_in_flight)
    ++ time_differences by.slack_time values held

abbrev pub metrics_text : Event → Totals → Comparison → List ℕ
metrics_text (Metrics time values) held by = differences by values held
metrics_text _ held by = []

-- ---- V19

-- the reported window, and the greatest that is right
unfoldable pub collapse_line : ℕ → ℕ → ℕ → ℕ → ℕ → List ℕ
collapse_line reported least acknowledged slack sum =
    numbered (codes "  window reported ") reported ++ numbered (codes ", at most ") least
    ++ numbered (codes " (two datagrams) + ") acknowledged
    ++ numbered (codes " (acknowledged since) + ") slack ++ numbered (codes " (slack) = ") sum
    ++ codes "\n"

abbrev pub collapse_text : ℕ → Option ℕ → ℕ → Option ℕ → List ℕ
collapse_text least (Some acknowledged) slack (Some reported) =
    collapse_line reported least acknowledged slack (least + acknowledged + slack)
collapse_text least _ slack _ = []
