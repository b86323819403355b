-- By what leave packets go out, and how much of it is left.
--
-- `c` are the settings of the header, `h` is the history.
use Rattle.std.specs.Prelude.{ℕ, ◌&&◌, ◌||◌, not, find, Bool, true, false, List, ◌∷◌, count_by}
use Rattle.std.specs.Prelude.{sum_by, option_and_then, Option, Some, None, if◌then◌else◌}
use Rattle.std.specs.List.{list_any}
use Rattle.qa_base.specs.declared.event.Event.{Event}
use Rattle.qa_base.specs.declared.event.Event.TheVariants.{Sent, Timer, Discard}
use Rattle.qa_base.specs.declared.space.Permission.TheVariants.{Probe, Recovery}
use Rattle.qa_base.specs.declared.space.Space.{Space}
use Rattle.qa_base.specs.values.Events.{is_space, is_in_flight_by}
use Rattle.qa_base.specs.machine.Moments.{moments, since}
use Rattle.qa_base.specs.machine.Packets.{acknowledges_new}
use Rattle.qa_base.specs.machine.Reno.{is_entry}
use Rattle.qa_base.specs.values.Settings.{Settings}
use Rattle.qa_base.specs.machine.Timer.{is_pto}

-- ---- probes (RFC 9002, sections 6.2.4 and 7.5)

-- the size of the in-flight packet marked as a probe that the last event sent
abbrev pub probe_size : List Event → ℕ
probe_size (Sent packet ∷ before) = if is_in_flight_by Probe packet then packet.size else 0
probe_size _ = 0

-- the bytes of probes since the last probe timeout; none without one
abbrev pub probe_spent : List Event → Option ℕ
probe_spent h =
    if list_any is_pto (moments h) then Some (sum_by probe_size (since is_pto h)) else None

-- the last event sends an ack-eliciting packet of the space
abbrev pub is_probe_of : Space → List Event → Bool
is_probe_of s (Sent packet ∷ before) = packet.eliciting && is_space s packet.space
is_probe_of s _ = false

-- the last event makes a probe of the space needless: that packet, an acknowledgment of something
-- new, or a discard
abbrev pub answers_pto : Space → List Event → Bool
answers_pto s (Discard time space ∷ before) = true
answers_pto s h = is_probe_of s h || acknowledges_new h

abbrev pub timer_space : List Event → Option Space
timer_space (Timer time kind space ∷ before) = Some space
timer_space _ = None

-- the space of the last probe timeout
abbrev pub last_pto_space : List Event → Option Space
last_pto_space h = option_and_then timer_space (find is_pto (moments h))

abbrev pub is_unanswered : List Event → Option Space → Bool
is_unanswered h None = false
is_unanswered h (Some s) = not (list_any (answers_pto s) (since is_pto h))

-- the probe of the last probe timeout was not sent, nor made needless
abbrev pub is_probe_due : List Event → Bool
is_probe_due h = is_unanswered h (last_pto_space h)

-- ---- entry into recovery (RFC 9002, section 7.3.2)

-- the last event sends an in-flight packet marked for recovery
abbrev pub is_recovery_packet : List Event → Bool
is_recovery_packet (Sent packet ∷ before) = is_in_flight_by Recovery packet
is_recovery_packet _ = false

-- how many such packets there were since the last entry; none without one
abbrev pub recovery_spent : Settings → List Event → Option ℕ
recovery_spent c h =
    if list_any (is_entry c) (moments h) then Some
    (count_by is_recovery_packet (since (is_entry c) h)) else None
