-- What is kept of the windows that the sender reports, and what an event makes of it.
use Rattle.std.specs.Prelude.{ℕ, ◌+◌, ◌==◌, fold, Bool, List, Option, Some, None, option_map}
use Rattle.std.specs.Prelude.{if◌then◌else◌}
use Rattle.qa_base.specs.declared.event.Event.{Event}
use Rattle.qa_base.specs.machine.Window.{acknowledged_since_collapse, reported_window}
use Rattle.qa_base.specs.values.Settings.{Settings}
use Rattle.qa_sender.specs.connection.Steps.{capped}
use Rattle.qa_sender.specs.declared.connection.reported.ReportedWindow.{ReportedWindow}
use Rattle.qa_sent_packets.specs.declared.packet.SentPacket.{SentPacket}

-- what is kept of it after a history
abbrev pub reported_after : Settings → List Event → ReportedWindow
reported_after c h = record {
  window = reported_window c h;
  acknowledged = acknowledged_since_collapse c h;
}

-- persistent congestion was established or not, by a detection that newly acknowledged so many
-- bytes
abbrev pub collapsed_with : ℕ → Bool → ReportedWindow → ReportedWindow
collapsed_with bytes persistent r =
    record r { acknowledged = if persistent then Some bytes else r.acknowledged }

-- so many bytes with those of a packet, where it is in flight
abbrev pub with_bytes : ℕ → SentPacket → ℕ
with_bytes n p = if p.in_flight then capped (n + p.size) else n

-- these packets were newly acknowledged
abbrev pub acknowledging : List SentPacket → ReportedWindow → ReportedWindow
acknowledging ps r =
    record r { acknowledged = option_map (λ n. fold with_bytes n ps) r.acknowledged }

-- this window was reported, where one was
abbrev pub reporting : Option ℕ → ReportedWindow → ReportedWindow
reporting None r = r
reporting (Some window) r =
    if window == r.window then r else record { window = window; acknowledged = None }
