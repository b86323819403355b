-- The deadline of the timer, from what is kept of the connection and of the packets that are open.
use Rattle.std.specs.Prelude.{◌≡◌, ℕ, ◌+◌, ◌*◌, ◌^◌, ◌&&◌, min, not, is_none, Bool, List}
use Rattle.std.specs.Prelude.{Option, Some, None, option_map, if◌then◌else◌}
use Rattle.std.specs.List.{list_any}
use Rattle.std.specs.Option.{option_or}
use Rattle.qa_base.specs.declared.event.Event.{Event}
use Rattle.qa_base.specs.declared.space.TimerKind.TheVariants.{Loss, Pto}
use Rattle.qa_base.specs.declared.space.Space.{Space}
use Rattle.qa_base.specs.declared.space.Space.TheVariants.{Initial, Handshake, App}
use Rattle.qa_base.specs.machine.Estimates.{rtt}
use Rattle.qa_base.specs.machine.Packets.{largest_acknowledged, packets_of, is_below_largest}
use Rattle.qa_base.specs.machine.Rtt.{Estimate, pto_base, loss_delay}
use Rattle.qa_base.specs.machine.Timer.{Due, awaits_acknowledgment, earlier}
use Rattle.qa_base.specs.machine.Timer as timers
use Rattle.qa_base.specs.values.Settings.{Settings, granularity}
use Rattle.qa_sender.specs.connection.Handshaking.{is_validated}
use Rattle.qa_sender.specs.declared.connection.connection.Connection.{Connection}
use Rattle.qa_sender.specs.declared.connection.deadline.OpenInSpace.{OpenInSpace}
use Rattle.qa_base.specs.values.PerSpace.{of_space}
use Rattle.qa_base.specs.declared.per_space.PerSpace.{PerSpace}
use Rattle.qa_sent_packets.specs.declared.packet.SentPacket.{SentPacket}

-- ---- what is told of the packets

-- when the oldest packet of a space is old, where it is below the largest acknowledged number (RFC
-- 9002, section 6.1.2)
abbrev pub loss_due : Settings → Estimate → Option ℕ → Space → Option SentPacket → Option Due
loss_due c r largest s None = None
loss_due c r largest s (Some p) =
    if is_below_largest p.number largest then Some
    (record { kind = Loss; space = s; time = p.time + loss_delay c r }) else None

-- it is told whether an open packet of the space asks for an acknowledgment, and the packet that
-- decides the loss time
pub record IsOpenIn (told : OpenInSpace) (c : Settings) (h : List Event) (s : Space) : Type 0 where
  pub awaits : told.awaits ≡ list_any (awaits_acknowledgment c h) (packets_of h s)
  pub oldest : loss_due c (rtt c h) (largest_acknowledged h s) s told.oldest
      ≡ timers.loss_due c h s

-- of each space
pub record AreOpen (told : PerSpace OpenInSpace) (c : Settings) (h : List Event) : Type 0 where
  pub each : (s : Space) → IsOpenIn (of_space s told) c h s

-- ---- the deadline

abbrev pub earliest_loss : Connection → PerSpace OpenInSpace → Option Due
earliest_loss k told =
    earlier (loss_due k.header k.rtt k.spaces.initial.largest Initial
    told.initial.oldest)
    (earlier (loss_due k.header k.rtt k.spaces.handshake.largest Handshake
    told.handshake.oldest)
    (loss_due k.header k.rtt k.spaces.app.largest App told.app.oldest))

-- a probe timeout of the space, so long after a time
abbrev pub pto_at : Space → Option ℕ → ℕ → ℕ → Option Due
pto_at s since base count =
    option_map (λ t. record { kind = Pto; space = s; time = t + base * 2 ^ min count 40 }) since

abbrev pub pto_due : Space → Bool → Option ℕ → ℕ → ℕ → Option Due
pto_due s awaits last base count = if awaits then pto_at s last base count else None

abbrev pub app_pto : Connection → Bool → Option Due
app_pto k awaits =
    if k.handshake.confirmed then pto_due App awaits k.spaces.app.last_eliciting
    (pto_base (granularity k.header) k.rtt + k.header.max_ack_delay) k.timer.pto_count else None

abbrev pub earliest_pto : Connection → PerSpace OpenInSpace → Option Due
earliest_pto k told =
    earlier (pto_due Initial told.initial.awaits k.spaces.initial.last_eliciting
    (pto_base (granularity k.header) k.rtt) k.timer.pto_count)
    (earlier (pto_due Handshake told.handshake.awaits k.spaces.handshake.last_eliciting
    (pto_base (granularity k.header) k.rtt) k.timer.pto_count)
    (app_pto k told.app.awaits))

abbrev pub anti_deadlock : Connection → Option Due
anti_deadlock k =
    if is_validated k.header.role k.handshake then None
    else pto_at (if k.handshake.has_keys then Handshake else Initial) k.timer.last_set
    (pto_base (granularity k.header) k.rtt) k.timer.pto_count

-- no packet of the space sets the timer
abbrev pub is_idle : OpenInSpace → Bool
is_idle told = not told.awaits && is_none told.oldest

-- where those of application data are the only ones
abbrev pub app_deadline : Connection → OpenInSpace → Option Due
app_deadline k told =
    option_or (loss_due k.header k.rtt k.spaces.app.largest App told.oldest)
    (app_pto k told.awaits)

abbrev pub packet_deadline : Connection → PerSpace OpenInSpace → Option Due
packet_deadline k told = option_or (earliest_loss k told) (earliest_pto k told)
