-- The moments of a history: what stood up to each of its events, that event as the last.
use Rattle.std.specs.Prelude.{ℕ, Bool, List, [], ◌∷◌, if◌then◌else◌}
use Rattle.qa_base.specs.declared.event.Event.{Event}
use Rattle.qa_base.specs.declared.event.Event.TheVariants.{Lost}
use Rattle.qa_base.specs.values.Events.{time_of}

-- the moments, the latest first
abbrev pub moments : List Event → List (List Event)
moments [] = []
moments (e ∷ before) = (e ∷ before) ∷ moments before

-- the moments after the last that passes the test; all of them where none does
abbrev pub since : (List Event → Bool) → List Event → List (List Event)
since test [] = []
since test (e ∷ before) = if test (e ∷ before) then [] else (e ∷ before) ∷ since test before

-- the moment of the detection of what is lost by the last event: a Lost line completes the one in
-- front of it
abbrev pub detection_of : List Event → List Event
detection_of (Lost time space ranges ∷ before) = before
detection_of h = h

-- what stood before the last event
abbrev pub before_last : List Event → List Event
before_last [] = []
before_last (e ∷ before) = before

-- the time of the last event; 0 where there is none
abbrev pub last_time : List Event → ℕ
last_time [] = 0
last_time (e ∷ before) = time_of e
