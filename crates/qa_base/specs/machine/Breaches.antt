-- What each rule forbids: whether an event breaks it after a history.
--
-- `c` are the settings of the header, `h` is the history.
use Rattle.std.specs.Prelude.{ℕ, ◌+◌, ◌*◌, ◌&&◌, not, nat_lt, nat_le, max, Bool, true, false, List}
use Rattle.std.specs.Prelude.{[], ◌∷◌, map, Option, Some, None, is_none}
use Rattle.std.specs.List.{list_any}
use Rattle.qa_base.specs.declared.event.Event.{Event}
use Rattle.qa_base.specs.declared.event.Event.TheVariants.{Sent, Ack, Lost, Timer, Discard}
use Rattle.qa_base.specs.declared.space.TimerKind.{TimerKind}
use Rattle.qa_base.specs.declared.space.TimerKind.TheVariants.{Pto}
use Rattle.qa_base.specs.declared.space.Permission.TheVariants.{Window, Probe, Recovery}
use Rattle.qa_base.specs.declared.space.Space.{Space}
use Rattle.qa_base.specs.declared.space.Space.TheVariants.{Handshake}
use Rattle.qa_base.specs.values.Events.{time_of, is_space, is_in_flight_by}
use Rattle.qa_base.specs.machine.Handshake.{is_confirmed}
use Rattle.qa_base.specs.machine.Permission.{probe_spent, recovery_spent, is_probe_due}
use Rattle.qa_base.specs.machine.Loss.{owed, nameable, bytes_in_flight}
use Rattle.qa_base.specs.machine.Numbers.{has_all, names_between}
use Rattle.qa_base.specs.machine.Packets.{Packet, packets_of, is_of, is_discarded, is_some_packet}
use Rattle.qa_base.specs.machine.Window.{window, other_window, acknowledged_since_collapse}
use Rattle.qa_base.specs.values.Constants.{minimum_window, probe_datagrams}
use Rattle.qa_base.specs.values.Settings.{Settings, early, in_unit, is_reported}
use Rattle.qa_base.specs.machine.Timer.{Due, deadline, packet_deadline, set_since, is_kind}

-- ---- any event

-- V1: the event is earlier than the one before it
abbrev pub is_time_back : List Event → Event → Bool
is_time_back [] e = false
is_time_back (last ∷ before) e = nat_lt (time_of e) (time_of last)

-- V2: a loss is owed, and this is no Lost line
abbrev pub is_loss_owed : Settings → List Event → Event → Bool
is_loss_owed c h (Lost time space ranges) = false
is_loss_owed c h _ = is_some_packet (owed c h)

-- ---- a Lost line

-- V3: nothing is owed in its space, and nothing is free
abbrev pub is_loss_not_owed : Settings → List Event → Event → Bool
is_loss_not_owed c h (Lost time space ranges) = not (list_any (is_of space) (nameable c h))
is_loss_not_owed c h _ = false

abbrev pub numbers : List Packet → List ℕ
numbers ps = map (λ p. p.number) ps

-- V4: it does not name all packets that are owed, or one that is neither owed nor free
abbrev pub is_other_loss_set : Settings → List Event → Event → Bool
is_other_loss_set c h (Lost time space ranges) =
    not (names_between ranges (numbers (owed c h)) (numbers (nameable c h)))
is_other_loss_set c h _ = false

-- ---- a space

abbrev pub space_of : Event → Option Space
space_of (Sent packet) = Some packet.space
space_of (Ack ack) = Some ack.space
space_of (Discard time space) = Some space
space_of _ = None

abbrev pub is_some_discarded : List Event → Option Space → Bool
is_some_discarded h None = false
is_some_discarded h (Some s) = is_discarded h s

-- V5: its space was discarded (RFC 9002, section 6.4)
abbrev pub is_space_gone : List Event → Event → Bool
is_space_gone h e = is_some_discarded h (space_of e)

-- ---- a packet

-- a packet of the space has this number or a higher one
abbrev pub has_at_or_above : Space → ℕ → List Event → Bool
has_at_or_above space number h = list_any (λ p. nat_le number p.number) (packets_of h space)

-- V6: a packet was sent in its space with its number or a higher one (RFC 9002, section 4.2)
abbrev pub is_number_not_higher : List Event → Event → Bool
is_number_not_higher h (Sent packet) = has_at_or_above packet.space packet.number h
is_number_not_higher h _ = false

-- so many bytes more are past the window; where the sender may overshoot it, where the bytes fill
-- it without them
abbrev pub is_past : Bool → ℕ → ℕ → ℕ → Bool
is_past true window bytes size = nat_le window bytes
is_past false window bytes size = nat_lt window (bytes + size)

-- V7: it takes the bytes in flight past the congestion window (RFC 9002, section 7)
abbrev pub is_past_window : Settings → List Event → Event → Bool
is_past_window c h (Sent packet) =
    is_in_flight_by Window packet
    && is_past c.options.window_overshoot (window c h) (bytes_in_flight c h) packet.size
is_past_window c h _ = false

-- more than an allowance with what was spent of it, or there is none
abbrev pub is_over : ℕ → ℕ → Option ℕ → Bool
is_over allowance more None = true
is_over allowance more (Some spent) = nat_lt allowance (spent + more)

-- V8: a probe before any probe timeout, or past the datagrams that one allows (RFC 9002, section
-- 6.2.4)
abbrev pub is_past_probe : Settings → List Event → Event → Bool
is_past_probe c h (Sent packet) =
    is_in_flight_by Probe packet
    && is_over (probe_datagrams * c.max_datagram_size) packet.size (probe_spent h)
is_past_probe c h _ = false

-- V9: the packet of an entry into recovery, which was not or had its packet (RFC 9002, section
-- 7.3.2)
abbrev pub is_past_recovery : Settings → List Event → Event → Bool
is_past_recovery c h (Sent packet) =
    is_in_flight_by Recovery packet && is_over 1 1 (recovery_spent c h)
is_past_recovery c h _ = false

-- ---- an acknowledgment

-- V10: it covers a number that was never sent in its space
abbrev pub is_ack_unsent : List Event → Event → Bool
is_ack_unsent h (Ack ack) = not (has_all (numbers (packets_of h ack.space)) ack.ranges)
is_ack_unsent h _ = false

-- ---- the timer

-- V11: none is set
abbrev pub is_timer_not_set : Settings → List Event → Event → Bool
is_timer_not_set c h (Timer time kind space) = is_none (deadline c h)
is_timer_not_set c h _ = false

abbrev pub is_other : TimerKind → Space → Option Due → Bool
is_other kind space None = false
is_other kind space (Some due) = not (is_kind kind due.kind && is_space space due.space)

-- V12: it is set for another cause or space
abbrev pub is_timer_other : Settings → List Event → Event → Bool
is_timer_other c h (Timer time kind space) = is_other kind space (deadline c h)
is_timer_other c h _ = false

abbrev pub is_before : ℕ → Option Due → Bool
is_before time None = false
is_before time (Some due) = nat_lt time due.time

-- V13: it is set for later, by more than a timer may be early
abbrev pub is_timer_early : Settings → List Event → Event → Bool
is_timer_early c h (Timer time kind space) = is_before (time + early c) (deadline c h)
is_timer_early c h _ = false

-- V14: the probe of the last probe timeout is due (RFC 9002, section 6.2.4)
abbrev pub is_probe_owed : List Event → Event → Bool
is_probe_owed h (Timer time Pto space) = is_probe_due h
is_probe_owed h _ = false

-- ---- a discard

-- V15: of the Handshake space before the handshake is confirmed (RFC 9001, section 4.9.2)
abbrev pub is_not_confirmed : List Event → Event → Bool
is_not_confirmed h (Discard time Handshake) = not (is_confirmed h)
is_not_confirmed h _ = false

-- ---- any event

-- past a deadline by more than the limit, counted from the time since which it was set where that
-- is later
abbrev pub is_past_due : ℕ → ℕ → ℕ → Option Due → Bool
is_past_due limit since time None = false
is_past_due limit since time (Some due) = nat_lt (max due.time since + limit) time

abbrev pub is_late_by : Settings → List Event → ℕ → Option ℕ → Bool
is_late_by c h time None = false
is_late_by c h time (Some limit) =
    is_past_due (in_unit c.unit limit) (set_since c h) time (packet_deadline c h)

-- V18: a timer that is set for packets should have fired before it, by the header's limit
abbrev pub is_timer_late : Settings → List Event → Event → Bool
is_timer_late c h e = is_late_by c h (time_of e) c.options.timer_late

-- a window that is above the least one with what was acknowledged since a collapse
abbrev pub is_above_collapse : ℕ → Option ℕ → Option ℕ → Bool
is_above_collapse least (Some reported) (Some acknowledged) = nat_lt (least + acknowledged) reported
is_above_collapse least _ _ = false

-- V19: persistent congestion was established, and the first other window that is reported since is
-- above two datagrams with what was acknowledged since, by more than the slack (RFC 9002, section
-- 7.6.2)
abbrev pub is_collapse_missing : Settings → List Event → Event → Bool
is_collapse_missing c h e =
    is_reported c.options.controller
    && is_above_collapse (minimum_window c.max_datagram_size + c.options.report_slack_bytes)
    (other_window c h e) (acknowledged_since_collapse c h)
