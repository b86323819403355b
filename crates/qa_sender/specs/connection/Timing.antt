-- What is kept of the timer, and what an event makes of it.
use Rattle.std.specs.Prelude.{ℕ, ◌+◌, Bool, List, Option, Some, None, if◌then◌else◌}
use Rattle.qa_base.specs.declared.event.Event.{Event}
use Rattle.qa_base.specs.declared.space.Space.{Space}
use Rattle.qa_base.specs.machine.Probes as probes
use Rattle.qa_base.specs.machine.Timer as timers
use Rattle.qa_base.specs.values.Events.{is_space}
use Rattle.qa_base.specs.values.Settings.{Settings}
use Rattle.qa_sender.specs.connection.Steps.{capped}
use Rattle.qa_sender.specs.declared.connection.timer.TimerState.{TimerState}

-- what is kept of it after a history
abbrev pub timer_after : Settings → List Event → TimerState
timer_after c h = record {
  pto_count = timers.pto_count c h;
  last_set = timers.last_set h;
  probe_due = probes.probe_due h;
}

-- before any event
abbrev pub unset : TimerState
unset = record { pto_count = 0; last_set = None; probe_due = None }

-- the probe that is due is not, where it is one of this space
abbrev pub answered_in : Space → Option Space → Option Space
answered_in space None = None
answered_in space (Some due) = if is_space due space then None else Some due

-- a probe timeout of the space, now
abbrev pub probing : Space → ℕ → TimerState → TimerState
probing space now t =
    record { pto_count = capped (1 + t.pto_count); last_set = Some now; probe_due = Some space }

-- it is set anew now, by an event that sets the PTO count to 0 or does not
abbrev pub restarted : ℕ → Bool → TimerState → TimerState
restarted now resets t = record {
  pto_count = if resets then 0 else t.pto_count;
  last_set = Some now;
  probe_due = None;
}
