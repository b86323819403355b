-- Which packets the last event finds lost, and whether they make persistent congestion, by an
-- estimate of the round-trip time.
--
-- `c` are the settings of the header, `h` is the history.
use Rattle.std.specs.Prelude.{ℕ, ◌+◌, ◌-◌, ◌&&◌, ◌||◌, not, nat_le, nat_lt, min, max, Bool, false}
use Rattle.std.specs.Prelude.{List, [], ◌∷◌, count_by, filter, map, Option, Some, None, option_map}
use Rattle.std.specs.Prelude.{if◌then◌else◌}
use Rattle.std.specs.List.{list_any}
use Rattle.qa_base.specs.declared.event.Event.{Event}
use Rattle.qa_base.specs.declared.event.Event.TheVariants.{Ack, Lost, Timer}
use Rattle.qa_base.specs.declared.space.TimerKind.TheVariants.{Loss}
use Rattle.qa_base.specs.declared.space.Space.{Space}
use Rattle.qa_base.specs.declared.space.ThresholdCounts.{ThresholdCounts}
use Rattle.qa_base.specs.declared.space.ThresholdCounts.TheVariants.{Numbers, Packets}
use Rattle.qa_base.specs.machine.Packets.{Packet, packets, packets_of, is_of, is_acknowledged}
use Rattle.qa_base.specs.machine.Packets.{is_declared_lost, is_below_largest, acknowledges_new}
use Rattle.qa_base.specs.machine.Packets.{largest_acknowledged, least_of}
use Rattle.qa_base.specs.machine.Rtt.{Estimate, loss_delay, persistent_after}
use Rattle.qa_base.specs.values.Events.{declares_lost}
use Rattle.qa_base.specs.values.Settings.{Settings, early, granularity, is_may}

-- ---- losses (RFC 9002, section 6.1, A.10)

-- the loss delay has passed since it was sent (section 6.1.2)
abbrev pub is_old : Settings → Estimate → ℕ → Packet → Bool
is_old c r now p = nat_le (loss_delay c r) (now - p.time)

-- how many packets of the space were sent with a number above this one and up to another
abbrev pub count_between : List Event → Space → ℕ → ℕ → ℕ
count_between h s number largest =
    count_by (λ p. nat_lt number p.number && nat_le p.number largest) (packets_of h s)

-- how far a number of the space lies below the largest acknowledged one: by the numbers from it to
-- that, as A.10 has it, or by the packets that were sent with them (section 6.1.1)
abbrev pub distance_below : ThresholdCounts → List Event → Space → ℕ → ℕ → ℕ
distance_below Numbers h s number largest = largest - number
distance_below Packets h s number largest = count_between h s number largest

-- below the largest acknowledged number by the sender's packet threshold (section 6.1.1)
abbrev pub is_far_below : Settings → List Event → ℕ → Packet → Bool
is_far_below c h largest p =
    nat_le c.options.packet_threshold
    (distance_below c.options.threshold_counts h p.space p.number largest)

-- below the largest acknowledged number, for long enough or, where such packets must be lost, by
-- the packet threshold
abbrev pub is_past_threshold : Settings → Estimate → List Event → ℕ → Option ℕ → Packet → Bool
is_past_threshold c r h now None p = false
is_past_threshold c r h now (Some largest) p =
    nat_lt p.number largest
    && ((not (is_may c.options.loss_by_number) && is_far_below c h largest p) || is_old c r now p)

-- below it by the packet threshold, not for long enough, and such packets may be spared
abbrev pub may_be_spared : Settings → Estimate → List Event → ℕ → Option ℕ → Packet → Bool
may_be_spared c r h now None p = false
may_be_spared c r h now (Some largest) p =
    nat_lt p.number largest && (is_may c.options.loss_by_number && is_far_below c h largest p)
    && not (is_old c r now p)

-- neither acknowledged nor declared lost
abbrev pub is_unsettled : List Event → Packet → Bool
is_unsettled h p = not (is_acknowledged h p) && not (is_declared_lost h p)

-- a detection in the packet's space, at a time, finds it lost
abbrev pub is_found : Settings → Estimate → List Event → ℕ → Space → Packet → Bool
is_found c r h now s p =
    p.in_flight && is_unsettled h p && is_past_threshold c r h now (largest_acknowledged h s) p

-- a detection in the packet's space, at a time, leaves it to the sender whether it is lost
abbrev pub is_left : Settings → Estimate → List Event → ℕ → Space → Packet → Bool
is_left c r h now s p =
    p.in_flight && is_unsettled h p && may_be_spared c r h now (largest_acknowledged h s) p

-- ---- when losses are looked for

-- in flight, neither acknowledged nor declared lost, and below the largest acknowledged number: a
-- loss timer is set for it
abbrev pub awaits_timer : List Event → Packet → Bool
awaits_timer h p =
    p.in_flight && is_unsettled h p && is_below_largest p.number (largest_acknowledged h p.space)

-- when the first such packet of the space was sent
abbrev pub first_awaiting : List Event → Space → Option ℕ
first_awaiting h s = least_of (map (λ p. p.time) (filter (awaits_timer h) (packets_of h s)))

-- a loss timer that may be early looks for losses as of the time for which it is set, if that is
-- later
abbrev pub looks_at : ℕ → ℕ → Option ℕ → ℕ
looks_at tolerance time None = time
looks_at tolerance time (Some due) = max time (min due (time + tolerance))

-- when the first packet of the space is old
abbrev pub old_at : Settings → Estimate → List Event → Space → Option ℕ
old_at c r h s = option_map (λ sent. sent + loss_delay c r) (first_awaiting h s)

-- where, and as of when, the last event looks for losses: an acknowledgment of something new, and a
-- loss timer
abbrev pub detection_by : Settings → Estimate → List Event → Option (Space × ℕ)
detection_by c r (Ack ack ∷ before) =
    if acknowledges_new (Ack ack ∷ before) then Some (ack.space, ack.time) else None
detection_by c r (Timer time Loss space ∷ before) =
    Some (space, looks_at (early c) time (old_at c r before space))
detection_by c r _ = None

-- ---- what is found, and what may be declared

-- of a detection in a space, at a time: the packets of the space that pass the test
abbrev pub all_at : (ℕ → Space → Packet → Bool) → List Event → Option (Space × ℕ) → List Packet
all_at test h None = []
all_at test h (Some (s, now)) = filter (test now s) (packets_of h s)

-- whether the packet is one of them
abbrev pub is_at : (ℕ → Space → Packet → Bool) → Packet → Option (Space × ℕ) → Bool
is_at test p None = false
is_at test p (Some (s, now)) = is_of s p && test now s p

-- the packets that the last event finds lost
abbrev pub owed_by : Settings → Estimate → List Event → List Packet
owed_by c r h = all_at (is_found c r h) h (detection_by c r h)

abbrev pub is_owed_by : Settings → Estimate → List Event → Packet → Bool
is_owed_by c r h p = is_at (is_found c r h) p (detection_by c r h)

-- the packets of which the last event leaves it to the sender whether they are lost
abbrev pub free_by : Settings → Estimate → List Event → List Packet
free_by c r h = all_at (is_left c r h) h (detection_by c r h)

abbrev pub is_free_by : Settings → Estimate → List Event → Packet → Bool
is_free_by c r h p = is_at (is_left c r h) p (detection_by c r h)

-- the event names a packet that is free after the history
abbrev pub is_completed_by : Settings → Estimate → List Event → Event → Bool
is_completed_by c r h e = list_any (λ p. declares_lost p.space p.number e) (free_by c r h)

-- a packet that is owed after the history, or that is free and that the event names
abbrev pub is_taken_by : Settings → Estimate → List Event → Event → Packet → Bool
is_taken_by c r h e p =
    is_owed_by c r h p || (is_free_by c r h p && declares_lost p.space p.number e)

-- the packets that are lost by the last event: those that it finds lost; and by a Lost line that
-- names one that is free, which so completes the detection in front of it, those that are owed and
-- those that it names
abbrev pub declared_by : Settings → Estimate → List Event → List Packet
declared_by c r (Lost time space ranges ∷ before) =
    if is_completed_by c r before (Lost time space ranges) then filter
    (is_taken_by c r before (Lost time space ranges)) (packets before) else []
declared_by c r h = owed_by c r h

-- ---- persistent congestion (RFC 9002, section 7.6)

abbrev pub is_after : Option ℕ → Packet → Bool
is_after None p = false
is_after (Some time) p = nat_lt time p.time

-- an ack-eliciting packet that was sent after the first sample
abbrev pub is_end : Estimate → Packet → Bool
is_end r p = p.eliciting && is_after r.first_rtt_sample p

-- a packet of any space that was sent between the two is acknowledged
abbrev pub is_acknowledged_between : List Event → Packet → Packet → Bool
is_acknowledged_between h p q =
    list_any (λ m. nat_lt p.place m.place && nat_lt m.place q.place && is_acknowledged h m)
    (packets h)

-- the two lie too far apart, and nothing between them was acknowledged
abbrev pub are_ends : Settings → Estimate → List Event → Packet → Packet → Bool
are_ends c r h p q =
    is_end r p && is_end r q
    && nat_lt (persistent_after (granularity c) r c.max_ack_delay) (q.time - p.time)
    && not (is_acknowledged_between h p q)

-- the last event establishes persistent congestion by two packets that are lost by it
abbrev pub is_persistent_by : Settings → Estimate → List Event → Bool
is_persistent_by c r h =
    list_any (λ p. list_any (are_ends c r h p) (declared_by c r h)) (declared_by c r h)
