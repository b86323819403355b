-- The loss detection timer (RFC 9002, section 6.2, A.8).
--
-- `c` are the settings of the header, `h` is the history.
use Rattle.std.specs.Prelude.{ℕ, ◌+◌, ◌*◌, ◌^◌, ◌==◌, ◌&&◌, nat_le, count_by, Bool, true, false}
use Rattle.std.specs.Prelude.{List, [], ◌∷◌, filter, find, map, Option, Some, None, option_map}
use Rattle.std.specs.Prelude.{option_and_then, if◌then◌else◌}
use Rattle.std.specs.List.{list_any}
use Rattle.std.specs.Option.{option_or}
use Rattle.qa_base.specs.declared.event.Event.{Event}
use Rattle.qa_base.specs.declared.event.Event.TheVariants.{Sent, Timer, Discard}
use Rattle.qa_base.specs.declared.space.TimerKind.{TimerKind}
use Rattle.qa_base.specs.declared.space.TimerKind.TheVariants.{Loss, Pto}
use Rattle.qa_base.specs.declared.space.Space.{Space}
use Rattle.qa_base.specs.declared.space.Space.TheVariants.{Initial, Handshake, App}
use Rattle.qa_base.specs.values.Events.{time_of, is_space}
use Rattle.qa_base.specs.machine.Handshake.{is_confirmed, is_validated, has_keys}
use Rattle.qa_base.specs.machine.Estimates.{rtt}
use Rattle.qa_base.specs.machine.Loss.{is_open}
use Rattle.qa_base.specs.machine.Moments.{moments, since}
use Rattle.qa_base.specs.machine.Packets.{Packet, packets_of, acknowledges_new, is_below_largest}
use Rattle.qa_base.specs.machine.Packets.{largest_acknowledged, least_of}
use Rattle.qa_base.specs.machine.Rtt.{loss_delay, pto_base}
use Rattle.qa_base.specs.values.Settings.{Settings, granularity}

-- ---- the PTO count (section 6.2.1)

-- the last event is a probe timeout
abbrev pub is_pto : List Event → Bool
is_pto (Timer time Pto space ∷ before) = true
is_pto _ = false

-- the last event sets the count to 0: a discard, or an acknowledgment of something new where the
-- peer is validated
abbrev pub resets_count : Settings → List Event → Bool
resets_count c (Discard time space ∷ before) = true
resets_count c h = acknowledges_new h && is_validated c h

-- the probe timeouts since then
abbrev pub pto_count : Settings → List Event → ℕ
pto_count c h = count_by is_pto (since (resets_count c) h)

-- ---- deadlines

-- what the timer is set for, in which space and when
pub record Due : Type 0 where
  pub kind : TimerKind
  pub space : Space
  pub time : ℕ

-- the earlier of the two; of equal times the first
abbrev pub earlier : Option Due → Option Due → Option Due
earlier None later = later
earlier (Some due) None = Some due
earlier (Some due) (Some later) = if nat_le due.time later.time then Some due else Some later

-- an open in-flight packet below the largest acknowledged number of its space, which is lost when
-- it is old
abbrev pub awaits_loss : Settings → List Event → Packet → Bool
awaits_loss c h p =
    p.in_flight && is_open c h p && is_below_largest p.number (largest_acknowledged h p.space)

-- the time at which the first packet of the space is old
abbrev pub loss_due : Settings → List Event → Space → Option Due
loss_due c h s =
    option_map (λ sent. record {
      kind = Loss;
      space = s;
      time = sent + loss_delay c (rtt c h);
    })
    (least_of (map (λ p. p.time) (filter (awaits_loss c h) (packets_of h s))))

abbrev pub earliest_loss : Settings → List Event → Option Due
earliest_loss c h =
    earlier (loss_due c h Initial) (earlier (loss_due c h Handshake) (loss_due c h App))

-- an open packet that asks for an acknowledgment
abbrev pub awaits_acknowledgment : Settings → List Event → Packet → Bool
awaits_acknowledgment c h p = p.eliciting && is_open c h p

-- the time of the last ack-eliciting packet of the space, open or not
abbrev pub last_eliciting : List Event → Space → Option ℕ
last_eliciting h s = option_map (λ p. p.time) (find (λ p. p.eliciting) (packets_of h s))

-- the probe timeout of the space, doubled for each before it; the peer may delay its
-- acknowledgments
abbrev pub pto_due : Settings → List Event → ℕ → Space → Option Due
pto_due c h peer_delay s =
    if list_any (awaits_acknowledgment c h) (packets_of h s)
    then option_map (λ sent.
    record {
      kind = Pto;
      space = s;
      time = sent + (pto_base (granularity c) (rtt c h) + peer_delay) * 2 ^ pto_count c h;
    })
    (last_eliciting h s)
    else None

-- application data counts once the handshake is confirmed
abbrev pub earliest_pto : Settings → List Event → Option Due
earliest_pto c h =
    earlier (pto_due c h 0 Initial) (earlier (pto_due c h 0 Handshake)
    (if is_confirmed h then pto_due c h c.max_ack_delay App else None))

-- ---- a client that is not validated keeps a timer (section 6.2.2.1)

-- the last event sets the timer
abbrev pub sets_timer : List Event → Bool
sets_timer (Sent packet ∷ before) = packet.in_flight
sets_timer (Timer time kind space ∷ before) = true
sets_timer (Discard time space ∷ before) = true
sets_timer h = acknowledges_new h

abbrev pub time_of_moment : List Event → Option ℕ
time_of_moment [] = None
time_of_moment (e ∷ before) = Some (time_of e)

-- when the timer was last set
abbrev pub last_set : List Event → Option ℕ
last_set h = option_and_then time_of_moment (find sets_timer (moments h))

abbrev pub anti_deadlock : Settings → List Event → Option Due
anti_deadlock c h =
    if is_validated c h then None
    else option_map (λ set. record {
      kind = Pto;
      space = if has_keys h then Handshake else Initial;
      time = set + pto_base (granularity c) (rtt c h) * 2 ^ pto_count c h;
    }) (last_set h)

-- what the timer is set for: the first of these that there is
abbrev pub deadline : Settings → List Event → Option Due
deadline c h = option_or (earliest_loss c h) (option_or (earliest_pto c h) (anti_deadlock c h))

-- what it is set for by packets, not as the timer that an unvalidated client keeps
abbrev pub packet_deadline : Settings → List Event → Option Due
packet_deadline c h = option_or (earliest_loss c h) (earliest_pto c h)

-- ---- since when

abbrev pub is_kind : TimerKind → TimerKind → Bool
is_kind Loss Loss = true
is_kind Pto Pto = true
is_kind _ _ = false

-- both there, of the same kind, space and time
abbrev pub is_same_due : Option Due → Option Due → Bool
is_same_due (Some due) (Some other) =
    is_kind due.kind other.kind && is_space due.space other.space && due.time == other.time
is_same_due _ _ = false

-- the time since which the deadline is what it is: that of the event that made it so
abbrev pub set_since : Settings → List Event → ℕ
set_since c [] = 0
set_since c (e ∷ before) =
    if is_same_due (deadline c before)
    (deadline c (e ∷ before)) then set_since c before else time_of e
