-- What a header asks that says nothing but what version 1 of the format can: the RTT by its samples
-- alone, and reported values compared exactly.
--
-- `c` are the settings of the header, `h` is the history.
use Rattle.std.specs.Prelude.{ℕ, ◌==◌, not, Bool, true, false, List, [], ◌∷◌, Option, Some, None}
use Rattle.qa_base.specs.declared.event.Event.{Event}
use Rattle.qa_base.specs.declared.event.Event.TheVariants.{Metrics}
use Rattle.qa_base.specs.declared.event.MetricValues.{MetricValues}
use Rattle.qa_base.specs.declared.rule.Field.TheVariants.{Window, Ssthresh, BytesInFlight}
use Rattle.qa_base.specs.declared.rule.Field.TheVariants.{LatestRtt, MinRtt, SmoothedRtt, Rttvar}
use Rattle.qa_base.specs.declared.rule.Rule.{Rule}
use Rattle.qa_base.specs.declared.rule.Rule.TheVariants.{Metric}
use Rattle.qa_base.specs.declared.totals.Totals.{Totals}
use Rattle.qa_base.specs.machine.Rtt.{Estimate, start, sample_of, updated}
use Rattle.qa_base.specs.machine.State.{totals}
use Rattle.qa_base.specs.values.Settings.{Settings}

-- the estimate by the samples of a history
abbrev pub rtt_by_samples : Settings → List Event → Estimate
rtt_by_samples c [] = start c.initial_rtt
rtt_by_samples c (e ∷ before) = updated false (rtt_by_samples c before) (sample_of c (e ∷ before))

-- a reported value is another than the machine's, which may be none
abbrev pub is_another : Option ℕ → Option ℕ → Bool
is_another None held = false
is_another (Some reported) None = true
is_another (Some reported) (Some held) = not (reported == held)

abbrev pub exact_tests_of : MetricValues → Totals → List (Bool × Rule)
exact_tests_of values held =
    (is_another values.window (Some held.window), Metric Window)
    ∷ (is_another values.ssthresh held.ssthresh, Metric Ssthresh)
    ∷ (is_another values.bytes_in_flight (Some held.bytes_in_flight), Metric BytesInFlight)
    ∷ (is_another values.latest_rtt (Some held.latest_rtt), Metric LatestRtt)
    ∷ (is_another values.min_rtt (Some held.min_rtt), Metric MinRtt)
    ∷ (is_another values.smoothed_rtt (Some held.smoothed_rtt), Metric SmoothedRtt)
    ∷ (is_another values.rttvar (Some held.rttvar), Metric Rttvar)
    ∷ []

-- whether the event breaks the rule by each value, where they are compared exactly
abbrev pub exact_tests : Settings → List Event → Event → List (Bool × Rule)
exact_tests c h (Metrics time values) = exact_tests_of values (totals c h)
exact_tests c h _ = []
