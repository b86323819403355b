-- Histories in which nothing that may be declared lost is spared, and in which Lost lines come at
-- once.
use Rattle.std.specs.Prelude.{◌≡◌, true, List, [], ◌∷◌}
use Rattle.std.specs.List.{AllByRecursion}
use Rattle.qa_base.specs.declared.event.Event.{Event}
use Rattle.qa_base.specs.declared.event.Event.TheVariants.{Lost}
use Rattle.qa_base.specs.machine.Loss.{free}
use Rattle.qa_base.specs.machine.Moments.{last_time}
use Rattle.qa_base.specs.values.Events.{declares_lost}
use Rattle.qa_base.specs.values.Settings.{Settings}

-- each event of the history names all that is free before it
abbrev pub NoneSpared : Settings → List Event → Type 0
NoneSpared c [] = Unit {0}
NoneSpared c (e ∷ h) =
    NoneSpared c h × AllByRecursion (λ p. declares_lost p.space p.number e ≡ true) (free c h)

-- a Lost line has the time of the event before it, as where that is the detection of what it names
abbrev pub IsAtOnce : Event → List Event → Type 0
IsAtOnce (Lost time space ranges) h = time ≡ last_time h
IsAtOnce _ h = Unit {0}

-- each Lost line of the history does
abbrev pub AreAtOnce : List Event → Type 0
AreAtOnce [] = Unit {0}
AreAtOnce (e ∷ h) = AreAtOnce h × IsAtOnce e h
