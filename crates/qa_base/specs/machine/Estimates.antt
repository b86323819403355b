-- The estimate of the round-trip time after a history (RFC 9002, section 5).
--
-- `c` are the settings of the header, `h` is the history.
use Rattle.std.specs.Prelude.{List, [], ◌∷◌}
use Rattle.qa_base.specs.declared.event.Event.{Event}
use Rattle.qa_base.specs.declared.event.Event.TheVariants.{Lost}
use Rattle.qa_base.specs.machine.Detection.{is_persistent_by}
use Rattle.qa_base.specs.machine.Rtt.{Estimate, start, sample_of, updated, after_congestion}
use Rattle.qa_base.specs.values.Settings.{Settings}

-- the estimate with the sample of the last event, by that before the event
abbrev pub with_sample_of : Settings → List Event → Estimate → Estimate
with_sample_of c h before = updated c.options.latest_rtt_less_delay before (sample_of c h)

-- by which estimate the event's losses are found: by its own, and by that of the event before it if
-- it is a Lost line, which completes the detection in front of it
abbrev pub found_by : Event → Estimate → Estimate → Estimate
found_by (Lost time space ranges) before own = before
found_by _ before own = own

abbrev mutual
  -- the estimate by which the last event's losses, and persistent congestion, are found: with its
  -- sample, and before that congestion changes it
  pub sampled : Settings → List Event → Estimate
  sampled c [] = start c.initial_rtt
  sampled c (e ∷ before) =
      found_by e (sampled c before) (with_sample_of c (e ∷ before) (rtt c before))

  -- the estimate after each event: its sample first, and then what persistent congestion does
  pub rtt : Settings → List Event → Estimate
  rtt c [] = start c.initial_rtt
  rtt c (e ∷ before) =
      let own = with_sample_of c (e ∷ before) (rtt c before) in
      after_congestion c
      (is_persistent_by c (found_by e (sampled c before) own) (e ∷ before)) own
