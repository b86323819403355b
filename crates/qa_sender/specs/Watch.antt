-- What is kept of the timer: what it is set for, and since when.
use Rattle.std.specs.Prelude.{◌≡◌, false, List, is_none}
use Rattle.qa_base.specs.declared.event.Event.{Event}
use Rattle.qa_base.specs.machine.Timer.{deadline, set_since}
use Rattle.qa_base.specs.values.Settings.{Settings}
use Rattle.qa_sender.specs.declared.watch.TimerWatch.{TimerWatch}

-- it is that of this history where the header has a limit for how late the timer may be; else
-- nothing is said of it
pub record IsWatched (watch : TimerWatch) (c : Settings) (h : List Event) : Type 0 where
  pub due : is_none c.options.timer_late ≡ false → watch.due ≡ deadline c h
  pub since : is_none c.options.timer_late ≡ false → watch.since ≡ set_since c h
