-- The congestion window by which packets are judged: NewReno's, or the one that the sender last
-- reported. And what a reported window may be behind persistent congestion.
--
-- `c` are the settings of the header, `h` is the history.
use Rattle.std.specs.Prelude.{ℕ, ◌+◌, ◌==◌, ◌||◌, Bool, false, find, List, [], ◌∷◌, sum_by, Option}
use Rattle.std.specs.Prelude.{Some, None, is_some, option_map, option_and_then, unwrap_or}
use Rattle.std.specs.Prelude.{if◌then◌else◌}
use Rattle.qa_base.specs.declared.event.Event.{Event}
use Rattle.qa_base.specs.declared.event.Event.TheVariants.{Metrics}
use Rattle.qa_base.specs.declared.space.Controller.{Controller}
use Rattle.qa_base.specs.declared.space.Controller.TheVariants.{NewReno, Reported}
use Rattle.qa_base.specs.machine.Loss.{is_persistent}
use Rattle.qa_base.specs.machine.Moments.{moments, since, detection_of}
use Rattle.qa_base.specs.machine.Packets.{newly_acknowledged}
use Rattle.qa_base.specs.machine.Reno.{reno}
use Rattle.qa_base.specs.values.Settings.{Settings}

-- ---- reports

-- the window that the event reports
abbrev pub window_in : Event → Option ℕ
window_in (Metrics time values) = values.window
window_in _ = None

-- the window that was last reported; before any report, the one that the sender begins with
abbrev pub reported_window : Settings → List Event → ℕ
reported_window c [] = c.initial_window
reported_window c (e ∷ before) = unwrap_or (window_in e) (reported_window c before)

-- the reported window, where it is another than this
abbrev pub unless_same : ℕ → Option ℕ → Option ℕ
unless_same window None = None
unless_same window (Some reported) = if reported == window then None else Some reported

-- the window that the event reports, where it is another than the one before
abbrev pub other_window : Settings → List Event → Event → Option ℕ
other_window c h e = unless_same (reported_window c h) (window_in e)

-- ---- the window

abbrev pub window_by : Controller → ℕ → ℕ → ℕ
window_by NewReno own reported = own
window_by Reported own reported = reported

-- the congestion window
abbrev pub window : Settings → List Event → ℕ
window c h = window_by c.options.controller (reno c h).window (reported_window c h)

abbrev pub ssthresh_by : Controller → Option ℕ → Option ℕ
ssthresh_by NewReno own = own
ssthresh_by Reported own = None

-- the slow start threshold, which a window that is reported has not
abbrev pub ssthresh : Settings → List Event → Option ℕ
ssthresh c h = ssthresh_by c.options.controller (reno c h).ssthresh

-- ---- behind persistent congestion (RFC 9002, section 7.6.2)

-- the bytes in flight that the last event newly acknowledges
abbrev pub acknowledged_bytes : List Event → ℕ
acknowledged_bytes h = sum_by (λ p. if p.in_flight then p.size else 0) (newly_acknowledged h)

-- the last event reports another window than the one before
abbrev pub changes_window : Settings → List Event → Bool
changes_window c [] = false
changes_window c (e ∷ before) = is_some (other_window c before e)

-- the last event establishes persistent congestion, or reports another window
abbrev pub is_collapse_or_change : Settings → List Event → Bool
is_collapse_or_change c h = is_persistent c h || changes_window c h

abbrev pub if_persistent : Settings → List Event → Option (List Event)
if_persistent c h = if is_persistent c h then Some h else None

-- the last moment at which persistent congestion was established or another window reported
abbrev pub last_collapse_or_change : Settings → List Event → Option (List Event)
last_collapse_or_change c h = find (is_collapse_or_change c) (moments h)

-- that moment, where it established persistent congestion: no other window was reported since
abbrev pub last_collapse : Settings → List Event → Option (List Event)
last_collapse c h = option_and_then (if_persistent c) (last_collapse_or_change c h)

-- the bytes in flight that were newly acknowledged since such a moment
abbrev pub acknowledged_since : Settings → List Event → ℕ
acknowledged_since c h = sum_by acknowledged_bytes (since (is_collapse_or_change c) h)

-- and those of the detection that established it
abbrev pub acknowledged_since_collapse : Settings → List Event → Option ℕ
acknowledged_since_collapse c h =
    option_map (λ m. acknowledged_since c h + acknowledged_bytes (detection_of m))
    (last_collapse c h)
