-- Headers of which the same machine is asked: they differ by their version and by what they
-- tolerate alone.
use Rattle.qa_base.specs.declared.space.ThresholdCounts.{ThresholdCounts}
use Rattle.qa_base.specs.machine.Loss.{free}
use Rattle.qa_base.specs.declared.event.Event.{Event}
use Rattle.qa_base.specs.declared.space.LossByNumber.TheVariants.{Must}
use Rattle.std.specs.Prelude.{◌≡◌, ◌≢◌, ◌⊎◌, ℕ, ◌≤◌, Bool, true, Option, Some, None, List, [], ◌∷◌}
use Rattle.qa_base.specs.declared.header.Version.{Version}
use Rattle.qa_base.specs.machine.Packets.{Packet}
use Rattle.qa_base.specs.machine.Reno.{reno}
use Rattle.std.specs.List.{AllByRecursion}
use Rattle.qa_base.specs.values.Settings.{Settings, is_may}

-- the two headers say the same but for their version, the late and early timers, the window that
-- may be overshot, the packet threshold and the slacks
pub record AreAlike (c d : Settings) : Type 0 where
  pub role : d.role ≡ c.role
  pub unit : d.unit ≡ c.unit
  pub max_datagram_size : d.max_datagram_size ≡ c.max_datagram_size
  pub max_ack_delay : d.max_ack_delay ≡ c.max_ack_delay
  pub initial_rtt : d.initial_rtt ≡ c.initial_rtt
  pub initial_window : d.initial_window ≡ c.initial_window
  pub refresh_min_rtt : d.options.refresh_min_rtt ≡ c.options.refresh_min_rtt
  pub controller : d.options.controller ≡ c.options.controller
  pub sample_eliciting_only : d.options.sample_eliciting_only ≡ c.options.sample_eliciting_only
  pub loss_by_number : d.options.loss_by_number ≡ c.options.loss_by_number
  pub threshold_counts : d.options.threshold_counts ≡ c.options.threshold_counts
  pub reset_rtt : d.options.reset_rtt ≡ c.options.reset_rtt
  pub latest_rtt_less_delay : d.options.latest_rtt_less_delay ≡ c.options.latest_rtt_less_delay
  pub time_threshold_eighths : d.options.time_threshold_eighths ≡ c.options.time_threshold_eighths
  pub recovery_by_order : d.options.recovery_by_order ≡ c.options.recovery_by_order

-- a limit that is no less, or no limit
abbrev pub IsNoLess : Option ℕ → Option ℕ → Type 0
IsNoLess limit None = Unit {0}
IsNoLess None (Some other) = ⊥
IsNoLess (Some limit) (Some other) = limit ≤ other

-- the packet threshold is the same; or packets that lie so far behind may be spared, and fewer need
-- lie that far
abbrev pub IsNoStricter : Settings → Settings → Type 0
IsNoStricter c d =
    (d.options.packet_threshold ≡ c.options.packet_threshold)
    ⊎ ((is_may c.options.loss_by_number ≡ true)
    × (d.options.packet_threshold ≤ c.options.packet_threshold))

-- and the second tolerates no less than the first
pub record IsLooser (c d : Settings) : Type 0 where
  pub alike : AreAlike c d
  pub threshold : IsNoStricter c d
  pub late : IsNoLess c.options.timer_late d.options.timer_late
  pub overshoot : c.options.window_overshoot ≡ true → d.options.window_overshoot ≡ true
  pub early : c.options.timer_early_us ≤ d.options.timer_early_us
  pub slack_us : c.options.report_slack_us ≤ d.options.report_slack_us
  pub slack_bytes : c.options.report_slack_bytes ≤ d.options.report_slack_bytes

-- the header in another version, with all else as it is
abbrev pub of_version : Settings → Version → Settings
of_version c version = record c { version = version }

-- the header under which losses by number must be declared, with all else as it is
abbrev pub where_they_must : Settings → Settings
where_they_must c = record c { options = record c.options { loss_by_number = Must } }

-- the header with a time threshold of so many eighths of the RTT, and all else as it is
abbrev pub with_time_threshold : Settings → ℕ → Settings
with_time_threshold c eighths =
    record c { options = record c.options { time_threshold_eighths = eighths } }

-- the header under which recovery is told by the order of the lines or by times, with all else as
-- it is
abbrev pub with_recovery_by_order : Settings → Bool → Settings
with_recovery_by_order c by_order =
    record c { options = record c.options { recovery_by_order = by_order } }

-- the header under which the packet threshold counts so, with all else as it is
abbrev pub counting : Settings → ThresholdCounts → Settings
counting c counts = record c { options = record c.options { threshold_counts = counts } }

-- nothing is free after the history, nor was after any before it
abbrev pub NothingFree : Settings → List Event → Type 0
NothingFree c [] = Unit {0}
NothingFree c (e ∷ h) = NothingFree c h × (free c (e ∷ h) ≡ [])

-- no packet of these has a time at which the history has recovery begin
abbrev pub NoneAtStarts : Settings → List Packet → List Event → Type 0
NoneAtStarts c ps [] = Unit {0}
NoneAtStarts c ps (e ∷ h) =
    NoneAtStarts c ps h
    × ((began : ℕ) → (reno c (e ∷ h)).recovery_start_time ≡ Some began
    → AllByRecursion (λ p. p.time ≢ began) ps)
