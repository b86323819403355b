-- The congestion window, by the moves that a history makes (RFC 9002, section 7, appendix B).
--
-- `c` are the settings of the header, `h` is the history.
use Rattle.std.specs.Prelude.{ℕ, ◌+◌, ◌*◌, ◌/◌, nat_lt, max, Bool, true, false, List, [], ◌∷◌, ◌++◌}
use Rattle.std.specs.Prelude.{filter, fold, length, map, reverse, Option, Some, None, if◌then◌else◌}
use Rattle.qa_base.specs.declared.event.Event.{Event}
use Rattle.qa_base.specs.declared.event.Event.TheVariants.{Ack}
use Rattle.qa_base.specs.machine.Loss.{declared, is_persistent}
use Rattle.qa_base.specs.machine.Moments.{detection_of, before_last, last_time}
use Rattle.qa_base.specs.machine.Packets.{Packet, newly_acknowledged}
use Rattle.qa_base.specs.values.Constants.{minimum_window, loss_reduction_divisor}
use Rattle.qa_base.specs.values.Settings.{Settings}

-- ---- single moves

-- the congestion window and the slow start threshold in bytes, and when recovery began (B.2)
pub record Control : Type 0 where
  pub window : ℕ
  pub ssthresh : Option ℕ
  pub recovery_start_time : Option ℕ

abbrev pub start : ℕ → Control
start window = record { window = window; ssthresh = None; recovery_start_time = None }

-- sent later than recovery began, or there is no recovery
abbrev pub is_outside_recovery : Option ℕ → ℕ → Bool
is_outside_recovery None sent = true
is_outside_recovery (Some began) sent = nat_lt began sent

-- a loss, of packets the last of which was sent at a time (section 7.3.2, B.6): it enters recovery
-- once a round trip
abbrev pub on_congestion_event : ℕ → ℕ → ℕ → Control → Control
on_congestion_event max_datagram_size last_sent now r =
    let ssthresh = r.window / loss_reduction_divisor in
    if is_outside_recovery r.recovery_start_time last_sent
    then record {
      window = max ssthresh (minimum_window max_datagram_size);
      ssthresh = Some ssthresh;
      recovery_start_time = Some now;
    }
    else r

-- persistent congestion (section 7.6.2, B.8)
abbrev pub on_persistent_congestion : ℕ → Control → Control
on_persistent_congestion max_datagram_size r =
    record {
      window = minimum_window max_datagram_size;
      ssthresh = r.ssthresh;
      recovery_start_time = None;
    }

abbrev pub is_below_ssthresh : ℕ → Option ℕ → Bool
is_below_ssthresh window None = true
is_below_ssthresh window (Some ssthresh) = nat_lt window ssthresh

abbrev pub is_slow_start : Control → Bool
is_slow_start r = is_below_ssthresh r.window r.ssthresh

-- what an acknowledged packet adds: its size in slow start (section 7.3.1), its part of a datagram
-- for each window else (7.3.3)
abbrev pub growth : ℕ → ℕ → Control → ℕ
growth max_datagram_size size r =
    if is_slow_start r then size else max_datagram_size * size / r.window

-- a packet was acknowledged that was sent at a time (B.5)
abbrev pub grow : ℕ → ℕ → ℕ → Control → Control
grow max_datagram_size size sent r =
    if is_outside_recovery r.recovery_start_time sent
    then record {
      window = r.window + growth max_datagram_size size r;
      ssthresh = r.ssthresh;
      recovery_start_time = r.recovery_start_time;
    }
    else r

-- ---- when packets are sent and recovery begins

-- when a packet was sent, by which recovery is told: its time (B.5), or the place of its line where
-- the header says that the order decides (section 7.3.2)
abbrev pub sent_mark : Settings → Packet → ℕ
sent_mark c p = if c.options.recovery_by_order then p.place else p.time

-- when the last event happened, likewise
abbrev pub event_mark : Settings → List Event → ℕ
event_mark c h = if c.options.recovery_by_order then length (before_last h) else last_time h

-- ---- the moves of a history

pub data Move : Type 0 where
  CongestionEvent : (last_sent now : ℕ) → Move
  PersistentCongestion : Move
  Grow : (size sent : ℕ) → Move

abbrev pub latest_sent : Settings → List Packet → ℕ
latest_sent c [] = 0
latest_sent c (p ∷ ps) = max (sent_mark c p) (latest_sent c ps)

-- packets lost by a detection at a time
abbrev pub congestion_events : Settings → ℕ → List Packet → List Move
congestion_events c now [] = []
congestion_events c now (p ∷ ps) = CongestionEvent (latest_sent c (p ∷ ps)) now ∷ []

abbrev pub persistent_congestions : Bool → List Move
persistent_congestions true = PersistentCongestion ∷ []
persistent_congestions false = []

-- a move for each in-flight packet that is newly acknowledged, in the order of sending
abbrev pub grows : Settings → List Packet → List Move
grows c new =
    map (λ p. Grow p.size (sent_mark c p)) (reverse (filter (λ p. p.in_flight) new))

-- the sender did not use the window that it had (section 7.8)
abbrev pub is_app_limited : Event → Bool
is_app_limited (Ack ack) = ack.app_limited
is_app_limited _ = false

-- the moves of the last event: losses first, at the time of their detection, then growth (A.7)
abbrev pub moves_of_last : Settings → List Event → List Move
moves_of_last c [] = []
moves_of_last c (e ∷ before) =
    congestion_events c (event_mark c (detection_of (e ∷ before))) (declared c (e ∷ before))
    ++ persistent_congestions (is_persistent c (e ∷ before))
    ++ (if is_app_limited e then [] else grows c (newly_acknowledged (e ∷ before)))

abbrev pub moves : Settings → List Event → List Move
moves c [] = []
moves c (e ∷ before) = moves c before ++ moves_of_last c (e ∷ before)

abbrev pub moved : ℕ → Control → Move → Control
moved max_datagram_size r (CongestionEvent last_sent now) =
    on_congestion_event max_datagram_size last_sent now r
moved max_datagram_size r PersistentCongestion = on_persistent_congestion max_datagram_size r
moved max_datagram_size r (Grow size sent) = grow max_datagram_size size sent r

-- the window, ssthresh and recovery after a history
abbrev pub reno : Settings → List Event → Control
reno c h = fold (moved c.max_datagram_size) (start c.initial_window) (moves c h)

-- ---- entries into recovery

abbrev pub enters : Option ℕ → List Move → Bool
enters recovery (CongestionEvent last_sent now ∷ ms) = is_outside_recovery recovery last_sent
enters recovery _ = false

-- the last event enters recovery: by when recovery began before the detection of what is lost by it
abbrev pub is_entry : Settings → List Event → Bool
is_entry c h =
    enters (reno c (before_last (detection_of h))).recovery_start_time (moves_of_last c h)
