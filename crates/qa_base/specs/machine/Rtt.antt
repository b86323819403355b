-- Samples of the round-trip time, and the estimate that they make (RFC 9002, section 5).
--
-- `c` are the settings of the header, `h` is the history.
use Rattle.std.specs.Prelude.{ℕ, ◌+◌, ◌-◌, ◌*◌, ◌/◌, ◌==◌, ◌&&◌, ◌||◌, not, nat_le, min, max, Bool}
use Rattle.std.specs.Prelude.{List, ◌∷◌, find, Option, Some, None, if◌then◌else◌}
use Rattle.std.specs.List.{list_any}
use Rattle.qa_base.specs.declared.event.Event.{Event}
use Rattle.qa_base.specs.declared.event.Event.TheVariants.{Ack}
use Rattle.qa_base.specs.machine.Packets.{Packet, newly_acknowledged, greatest}
use Rattle.qa_base.specs.machine.Handshake.{is_confirmed}
use Rattle.qa_base.specs.values.Constants.{persistent_congestion_threshold, time_threshold_divisor}
use Rattle.qa_base.specs.values.Settings.{Settings, granularity}

-- ---- samples (RFC 9002, section 5.1)

-- how long the packet with the largest acknowledged number took, the peer's delay, and when the
-- acknowledgment came
pub record Sample : Type 0 where
  pub latest_rtt : ℕ
  pub ack_delay : ℕ
  pub time : ℕ

-- the peer's delay counts up to its max_ack_delay once the handshake is confirmed (RFC 9002,
-- section 5.3)
abbrev pub limited_delay : Settings → List Event → ℕ → ℕ
limited_delay c before delay = if is_confirmed before then min delay c.max_ack_delay else delay

abbrev pub sample_by : ℕ → ℕ → Option Packet → Option Sample
sample_by time delay None = None
sample_by time delay (Some p) =
    Some (record { latest_rtt = time - p.time; ack_delay = delay; time = time })

-- an ack-eliciting packet; where the sender samples no others, the one with the largest number
abbrev pub gives_sample : Bool → ℕ → Packet → Bool
gives_sample only largest p = p.eliciting && (not only || p.number == largest)

-- the sample of the last event: it acknowledges, and newly both the packet with its largest number
-- and an ack-eliciting one, which is the same where the sender samples no others
abbrev pub sample_of : Settings → List Event → Option Sample
sample_of c (Ack ack ∷ before) =
    let new = newly_acknowledged (Ack ack ∷ before) in
    if list_any (gives_sample c.options.sample_eliciting_only (greatest ack.ranges)) new
    then sample_by ack.time (limited_delay c before ack.delay)
    (find (λ p. p.number == greatest ack.ranges) new) else None
sample_of c _ = None

-- ---- the estimate (RFC 9002, sections 5.2 and 5.3, A.7)

pub record Estimate : Type 0 where
  pub latest_rtt : ℕ
  pub min_rtt : ℕ
  pub smoothed_rtt : ℕ
  pub rttvar : ℕ
  pub first_rtt_sample : Option ℕ

-- before the first sample
abbrev pub start : ℕ → Estimate
start initial_rtt =
    record {
      latest_rtt = 0;
      min_rtt = 0;
      smoothed_rtt = initial_rtt;
      rttvar = initial_rtt / 2;
      first_rtt_sample = None;
    }

-- the first sample, at a time
abbrev pub first_sample : ℕ → ℕ → Estimate
first_sample latest_rtt now = record {
  latest_rtt = latest_rtt;
  min_rtt = latest_rtt;
  smoothed_rtt = latest_rtt;
  rttvar = latest_rtt / 2;
  first_rtt_sample = Some now;
}

abbrev pub distance : ℕ → ℕ → ℕ
distance a b = (a - b) + (b - a)

-- the peer's delay is taken off, unless that leaves less than min_rtt
abbrev pub adjusted : ℕ → ℕ → ℕ → ℕ
adjusted min_rtt latest_rtt ack_delay =
    if nat_le (min_rtt + ack_delay) latest_rtt then latest_rtt - ack_delay else latest_rtt

-- a later sample: rttvar by the smoothed RTT before it. Where a sender keeps samples less the
-- delay, the latest RTT is the adjusted one
abbrev pub next_sample : Bool → Estimate → ℕ → ℕ → Estimate
next_sample less_delay r latest_rtt ack_delay =
    let min_rtt = min r.min_rtt latest_rtt in
    let adjusted_rtt = adjusted min_rtt latest_rtt ack_delay in
    record {
      latest_rtt = if less_delay then adjusted_rtt else latest_rtt;
      min_rtt = min_rtt;
      smoothed_rtt = (7 * r.smoothed_rtt + adjusted_rtt) / 8;
      rttvar = (3 * r.rttvar + distance r.smoothed_rtt adjusted_rtt) / 4;
      first_rtt_sample = r.first_rtt_sample;
    }

abbrev pub with_sample_by : Option ℕ → Bool → Estimate → ℕ → ℕ → ℕ → Estimate
with_sample_by None less_delay r latest_rtt ack_delay now = first_sample latest_rtt now
with_sample_by (Some first) less_delay r latest_rtt ack_delay now =
    next_sample less_delay r latest_rtt ack_delay

-- one sample more, the first or a later one
abbrev pub with_sample : Bool → Estimate → ℕ → ℕ → ℕ → Estimate
with_sample less_delay r latest_rtt ack_delay now =
    with_sample_by r.first_rtt_sample less_delay r latest_rtt ack_delay now

abbrev pub updated : Bool → Estimate → Option Sample → Estimate
updated less_delay r None = r
updated less_delay r (Some s) = with_sample less_delay r s.latest_rtt s.ack_delay s.time

-- min_rtt is the latest sample again (section 5.2)
abbrev pub refreshed : Estimate → Estimate
refreshed r = record {
  latest_rtt = r.latest_rtt;
  min_rtt = r.latest_rtt;
  smoothed_rtt = r.smoothed_rtt;
  rttvar = r.rttvar;
  first_rtt_sample = r.first_rtt_sample;
}

-- the estimate begins again: as before the first sample, but for latest_rtt (section 5.2)
abbrev pub reset : ℕ → Estimate → Estimate
reset initial_rtt r = record {
  latest_rtt = r.latest_rtt;
  min_rtt = 0;
  smoothed_rtt = initial_rtt;
  rttvar = initial_rtt / 2;
  first_rtt_sample = None;
}

-- what persistent congestion does to the estimate, if the header asks for it: it is reset, or else
-- min_rtt is refreshed (section 5.2)
abbrev pub on_persistent_congestion : Settings → Estimate → Estimate
on_persistent_congestion c r =
    if c.options.reset_rtt then reset c.initial_rtt r else
    (if c.options.refresh_min_rtt then refreshed r else r)

abbrev pub after_congestion : Settings → Bool → Estimate → Estimate
after_congestion c is_persistent r = if is_persistent then on_persistent_congestion c r else r

-- ---- what is computed from it, with the granularity of timers

-- n / d, rounded up
abbrev pub divided_up : ℕ → ℕ → ℕ
divided_up n d = (n + (d - 1)) / d

-- how long after it was sent a packet is old: the sender's time threshold of the RTT, rounded up,
-- and the granularity at least (RFC 9002, section 6.1.2)
abbrev pub loss_delay : Settings → Estimate → ℕ
loss_delay c r =
    let rtt = max r.latest_rtt r.smoothed_rtt in
    max (divided_up (c.options.time_threshold_eighths * rtt) time_threshold_divisor) (granularity c)

-- the probe timeout before the peer's delay and the backoff (RFC 9002, section 6.2.1)
abbrev pub pto_base : ℕ → Estimate → ℕ
pto_base granularity r = r.smoothed_rtt + max (4 * r.rttvar) granularity

-- the duration of persistent congestion (RFC 9002, section 7.6.1)
abbrev pub persistent_after : ℕ → Estimate → ℕ → ℕ
persistent_after granularity r max_ack_delay =
    persistent_congestion_threshold * (pto_base granularity r + max_ack_delay)
