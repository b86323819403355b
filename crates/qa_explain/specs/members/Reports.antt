-- What a sender reports, and what the machine has.
use Rattle.std.specs.Prelude.{ℕ, codes, List, [], ◌++◌, Option, Some, None, if◌then◌else◌}
use Rattle.json.specs.Token.{Token}
use Rattle.qa_base.specs.declared.event.Event.{Event}
use Rattle.qa_base.specs.declared.event.Event.TheVariants.{Metrics}
use Rattle.qa_base.specs.declared.event.MetricValues.{MetricValues}
use Rattle.qa_base.specs.declared.rule.Field.{Field}
use Rattle.qa_base.specs.declared.rule.Field.TheVariants as field
use Rattle.qa_base.specs.declared.space.TimeUnit.{TimeUnit}
use Rattle.qa_base.specs.declared.totals.Totals.{Totals}
use Rattle.qa_base.specs.machine.Metrics.{differs}
use Rattle.qa_base.specs.machine.Rtt.{distance}
use Rattle.qa_base.specs.values.Names.{field_name, unit_name}
use Rattle.qa_base.specs.values.Settings.{is_reported}
use Rattle.qa_ledger.specs.declared.causes.cause.Comparison.{Comparison}
use Rattle.qa_explain.specs.members.Object.{amount_at, closed, list_begin, list_end, opened}
use Rattle.qa_explain.specs.members.Object.{some_amount_at, string_at}
use Rattle.qa_explain.specs.members.Sending.{bytes_at}

-- ---- V16

-- how far a reported value is from the machine's, where it has one
abbrev pub gap : ℕ → Option ℕ → Option ℕ
gap reported None = None
gap reported (Some held) = Some (distance reported held)

abbrev pub held_at : List ℕ → Option ℕ → List Token
held_at unit held = some_amount_at (codes "held") unit held

unfoldable pub values_of : Field → List ℕ → ℕ → ℕ → Option ℕ → List Token
values_of f unit slack reported held =
    string_at (codes "field") (field_name f) ++ amount_at (codes "reported") unit reported
    ++ held_at unit held
    ++ some_amount_at (codes "difference") unit (gap reported held)
    ++ amount_at (codes "slack") unit slack

unfoldable pub difference : Field → List ℕ → ℕ → ℕ → Option ℕ → List Token
difference f unit slack reported held = opened ++ values_of f unit slack reported held ++ closed

-- a value that differs by more than the slack
abbrev pub differing : Field → List ℕ → ℕ → Option ℕ → Option ℕ → List Token
differing f unit slack None held = []
differing f unit slack (Some reported) held =
    if differs slack (Some reported) held then difference f unit slack reported held else []

abbrev pub bytes : List ℕ
bytes = codes "bytes"

unfoldable pub of_controller : ℕ → MetricValues → Totals → List Token
of_controller slack values held =
    differing field.Window bytes slack values.window (Some held.window)
    ++ differing field.Ssthresh bytes slack values.ssthresh held.ssthresh

-- a window that is reported is not compared, nor is its ssthresh
unfoldable pub of_bytes : Comparison → MetricValues → Totals → List Token
of_bytes by values held =
    (if is_reported by.controller then [] else of_controller by.slack_bytes values held)
    ++ differing field.BytesInFlight bytes by.slack_bytes values.bytes_in_flight
    (Some held.bytes_in_flight)

unfoldable pub of_samples : List ℕ → ℕ → MetricValues → Totals → List Token
of_samples unit slack values held =
    differing field.LatestRtt unit slack values.latest_rtt (Some held.latest_rtt)
    ++ differing field.MinRtt unit slack values.min_rtt (Some held.min_rtt)

unfoldable pub of_estimates : List ℕ → ℕ → MetricValues → Totals → List Token
of_estimates unit slack values held =
    differing field.SmoothedRtt unit slack values.smoothed_rtt (Some held.smoothed_rtt)
    ++ differing field.Rttvar unit slack values.rttvar (Some held.rttvar)

unfoldable pub differences : TimeUnit → Comparison → MetricValues → Totals → List Token
differences u by values held =
    list_begin (codes "differences") ++ of_bytes by values held
    ++ of_samples (unit_name u) by.slack_time values held
    ++ of_estimates (unit_name u) by.slack_time values held ++ list_end

abbrev pub metric_facts : TimeUnit → Event → Totals → Comparison → List Token
metric_facts u (Metrics time values) held by = differences u by values held
metric_facts u _ held by = []

-- ---- V19

unfoldable pub collapse_facts : ℕ → Option ℕ → ℕ → Option ℕ → List Token
collapse_facts least acknowledged slack reported =
    bytes_at (codes "reported_window") reported ++ amount_at (codes "least") bytes least
    ++ bytes_at (codes "acknowledged") acknowledged
    ++ amount_at (codes "slack") bytes slack
