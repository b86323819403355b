-- The estimates of the round-trip time that are kept of a history.
use Rattle.std.specs.Prelude.{◌≡◌, ◌||◌, Bool, List, ◌∷◌}
use Rattle.qa_base.specs.declared.event.Event.{Event}
use Rattle.qa_base.specs.machine.Estimates.{rtt, sampled, with_sample_of}
use Rattle.qa_base.specs.values.Settings.{Settings}
use Rattle.qa_reference.specs.Looks.{IsLook}
use Rattle.qa_reference.specs.declared.deadlines.TimerLook.{TimerLook}
use Rattle.qa_reference.specs.declared.estimates.Estimates.{Estimates}

-- persistent congestion changes the estimate
abbrev pub asks : Settings → Bool
asks c = c.options.reset_rtt || c.options.refresh_min_rtt

-- these are the estimates after the history
abbrev pub AreEstimates : Settings → List Event → Estimates → Type 0
AreEstimates c h x = (x.sampled ≡ sampled c h) × (x.rtt ≡ rtt c h)

-- .. with one more event, but for what persistent congestion does
abbrev pub AreSampled : Settings → Event → List Event → Estimates → Type 0
AreSampled c e h x =
    (x.sampled ≡ sampled c (e ∷ h)) × (x.rtt ≡ with_sample_of c (e ∷ h) (rtt c h))

-- what is seen of the history before it is asked what the timer is set for
abbrev pub IsTimerLook : Settings → List Event → TimerLook → Type 0
IsTimerLook c h x = IsLook c h x.look × (x.rtt ≡ rtt c h)
