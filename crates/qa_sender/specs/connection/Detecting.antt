-- What is kept of a detection for a Lost line behind it.
use Rattle.std.specs.Prelude.{ℕ, List, Option, Some, None, option_map, if◌then◌else◌}
use Rattle.qa_base.specs.declared.event.Event.{Event}
use Rattle.qa_base.specs.declared.space.Space.{Space}
use Rattle.qa_base.specs.machine.Estimates.{sampled}
use Rattle.qa_base.specs.machine.Loss.{detection}
use Rattle.qa_base.specs.machine.Moments.{before_last}
use Rattle.qa_base.specs.machine.Reno.{event_mark, reno}
use Rattle.qa_base.specs.machine.Window.{acknowledged_bytes}
use Rattle.qa_base.specs.values.Settings.{Settings, is_may}
use Rattle.qa_sender.specs.Thresholds.{far_end}
use Rattle.qa_sender.specs.declared.connection.connection.Connection.{Connection}
use Rattle.qa_sender.specs.declared.connection.detection.Detection.{Detection}

-- of a detection by the last event, in a space and as of a time
abbrev pub detected_in : Settings → List Event → Space × ℕ → Detection
detected_in c h d = record {
  space = d.0;
  looked = d.1;
  mark = event_mark c h;
  rtt = sampled c h;
  before = reno c (before_last h);
  acknowledged = acknowledged_bytes h;
  far_end = far_end c h d.0;
}

-- where the last event is one
abbrev pub detection_after : Settings → List Event → Option Detection
detection_after c h = option_map (detected_in c h) (detection c h)

-- all of it is kept where packets may be spared
abbrev pub kept_of : Settings → Detection → Option Detection
kept_of c d = if is_may c.options.loss_by_number then Some d else None

-- the space of a detection, and all of it where that is kept
pub record Search : Type 0 where
  pub space : Space
  pub detection : Option Detection

abbrev pub search_of : Settings → Detection → Search
search_of c d = record { space = d.space; detection = kept_of c d }

-- of the last event, where it is one
abbrev pub search_after : Settings → List Event → Option Search
search_after c h = option_map (search_of c) (detection_after c h)

-- by the space in which the last event looked, and what is kept of the last that did
abbrev pub search_by : Option Space → Option Detection → Option Search
search_by None kept = None
search_by (Some space) kept = Some (record { space = space; detection = kept })

abbrev pub search_in : Connection → Option Search
search_in k = search_by k.searched k.detection

-- all of it, where it is kept
abbrev pub whole_of : Option Search → Option Detection
whole_of None = None
whole_of (Some s) = s.detection
