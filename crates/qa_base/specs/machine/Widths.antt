-- Words for the ranges of the events of a history, and for what grows with them.
use Rattle.std.specs.Prelude.{◌≡◌, ◌≤◌, ℕ, true, count_by, List}
use Rattle.qa_base.specs.declared.event.Event.{Event}
use Rattle.qa_base.specs.machine.Packets.{packets, is_acknowledged}
use Rattle.qa_base.specs.values.Events.{fits, time_of}
use Rattle.qa_base.specs.values.Limits.{max_time}

-- the event is one that a line can say
abbrev pub Fits : Event → Type 0
Fits e = fits e ≡ true

-- its time is in the range of times
abbrev pub IsTimely : Event → Type 0
IsTimely e = time_of e ≤ max_time

-- how many packets were acknowledged
abbrev pub acknowledged_count : List Event → ℕ
acknowledged_count h = count_by (is_acknowledged h) (packets h)
