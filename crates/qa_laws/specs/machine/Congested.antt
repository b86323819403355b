-- What persistent congestion makes of the estimate of the round-trip time.
use Rattle.std.specs.Prelude.{◌≡◌, false, List, [], ◌∷◌}
use Rattle.qa_base.specs.declared.event.Event.{Event}
use Rattle.qa_base.specs.machine.Estimates.{with_sample_of}
use Rattle.qa_base.specs.machine.Loss.{is_persistent}
use Rattle.qa_base.specs.machine.Rtt.{Estimate, start}
use Rattle.qa_base.specs.values.Settings.{Settings}

-- no event of the history establishes any
abbrev pub NeverPersistent : Settings → List Event → Type 0
NeverPersistent c [] = Unit {0}
NeverPersistent c (e ∷ h) = NeverPersistent c h × (is_persistent c (e ∷ h) ≡ false)

-- the estimate by the samples of a history, and nothing else
abbrev pub samples_alone : Settings → List Event → Estimate
samples_alone c [] = start c.initial_rtt
samples_alone c (e ∷ h) = with_sample_of c (e ∷ h) (samples_alone c h)
