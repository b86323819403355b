-- The space in which a probe is due, and what one more event makes of it.
use Rattle.std.specs.Prelude.{if◌then◌else◌, List, Option, Some, None}
use Rattle.qa_base.specs.declared.event.Event.{Event}
use Rattle.qa_base.specs.declared.space.Space.{Space}
use Rattle.qa_base.specs.machine.Permission.{answers_pto, is_probe_due, last_pto_space}

-- where the probe of the last probe timeout is due, its space
abbrev pub probe_due : List Event → Option Space
probe_due h = if is_probe_due h then last_pto_space h else None

-- the same space, unless the last event makes its probe needless
abbrev pub unanswered_by : List Event → Option Space → Option Space
unanswered_by h None = None
unanswered_by h (Some s) = if answers_pto s h then None else Some s
