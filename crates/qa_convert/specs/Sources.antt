-- What the records of a log say that is the same for its whole trace: the header has it, delays are
-- decoded by it, and a trace begins behind a Retry.
use Rattle.std.specs.Prelude.{ℕ, ◌%◌, ◌==◌, ◌&&◌, ◌||◌, not, Bool, true, false, List, Option, None}
use Rattle.std.specs.Prelude.{Some, if◌then◌else◌, is_some, option_map, unwrap_or}
use Rattle.std.specs.List.{fold}
use Rattle.std.specs.Option.{option_or}
use Rattle.std.specs.Str.{bytes_eq}
use Rattle.std.specs.String.{string_bytes}
use Rattle.json.specs.Json.{Json}
use Rattle.qa_base.specs.declared.per_space.PerSpace.{PerSpace}
use Rattle.qa_base.specs.declared.space.Role.{Role}
use Rattle.qa_base.specs.declared.space.Role.TheVariants.{Client}
use Rattle.qa_base.specs.declared.space.Space.{Space}
use Rattle.qa_base.specs.declared.space.Space.TheVariants.{Initial}
use Rattle.qa_base.specs.values.PerSpace.{with_space}
use Rattle.qa_convert.specs.Groups.{has_some}
use Rattle.qa_convert.specs.Reading.{next_index}
use Rattle.qa_convert.specs.declared.event.At.{At}
use Rattle.qa_convert.specs.declared.event.LoggedEvent.{LoggedEvent}
use Rattle.qa_convert.specs.declared.event.PeerParameters.{PeerParameters}
use Rattle.qa_convert.specs.declared.event.RecoveryParameters.{RecoveryParameters}
use Rattle.qa_convert.specs.declared.event.Report.{Report}
use Rattle.qa_convert.specs.declared.event.Said.{Said}
use Rattle.qa_convert.specs.declared.event.Said.TheVariants as said
use Rattle.qa_convert.specs.declared.packet.LoggedPacket.{LoggedPacket}
use Rattle.qa_convert.specs.declared.survey.Retry.{Retry}
use Rattle.qa_convert.specs.declared.survey.Survey.{Survey}
use Rattle.qa_qlog.specs.Lengths.{destination}
use Rattle.qa_qlog.specs.Packets.{header_of}
use Rattle.qa_qlog.specs.declared.metrics.Rtts.{Rtts}

-- whose log it is; the transport parameters of the peer, and the parameters of recovery; whether an
-- acknowledgment came, and before it the smoothed RTT of the first report that has no sample, that
-- of the last report, and the first window; whether a report has a window; whether each time is a
-- whole millisecond, and whether one is no whole microsecond; whether a packet came, the last
-- number that was sent in each space, and where a client's last Initial packet before it went; and
-- the Retry that the client took in
pub record Sources : Type 0 where
  pub role : Role
  pub of_peer : PeerParameters
  pub recovery : RecoveryParameters
  pub has_ack : Bool
  pub first_smoothed : Option ℕ
  pub smoothed : ℕ
  pub first_window : Option ℕ
  pub has_window : Bool
  pub has_milliseconds : Bool
  pub has_nanoseconds : Bool
  pub has_received : Bool
  pub last_numbers : PerSpace (Option ℕ)
  pub destination : Option (List ℕ)
  pub retry : Option Retry

-- no parameter of recovery is said
abbrev pub none_set : RecoveryParameters
none_set = record {
  initial_rtt = None;
  max_datagram_size = None;
  initial_window = None;
  packet_threshold = None;
  time_threshold = None;
}

-- nothing is said
abbrev pub no_sources : Role → Sources
no_sources role = record {
  role = role;
  of_peer = record { max_ack_delay = None; ack_delay_exponent = None };
  recovery = none_set;
  has_ack = false;
  first_smoothed = None;
  smoothed = 0;
  first_window = None;
  has_window = false;
  has_milliseconds = true;
  has_nanoseconds = false;
  has_received = false;
  last_numbers = record { initial = None; handshake = None; app = None };
  destination = None;
  retry = None;
}

abbrev pub sources_in : Survey → Sources
sources_in s = record {
  role = s.role;
  of_peer = s.of_peer;
  recovery = s.recovery;
  has_ack = s.has_ack;
  first_smoothed = s.first_smoothed;
  smoothed = s.smoothed;
  first_window = s.first_window;
  has_window = s.has_window;
  has_milliseconds = s.has_milliseconds;
  has_nanoseconds = s.has_nanoseconds;
  has_received = s.has_received;
  last_numbers = s.last_numbers;
  destination = option_map string_bytes s.destination;
  retry = s.retry;
}

-- ---- what was said of each last

abbrev pub both_said : PeerParameters → PeerParameters → PeerParameters
both_said p before = record {
  max_ack_delay = option_or p.max_ack_delay before.max_ack_delay;
  ack_delay_exponent = option_or p.ack_delay_exponent before.ack_delay_exponent;
}

abbrev pub both_set : RecoveryParameters → RecoveryParameters → RecoveryParameters
both_set p before = record {
  initial_rtt = option_or p.initial_rtt before.initial_rtt;
  max_datagram_size = option_or p.max_datagram_size before.max_datagram_size;
  initial_window = option_or p.initial_window before.initial_window;
  packet_threshold = option_or p.packet_threshold before.packet_threshold;
  time_threshold = option_or p.time_threshold before.time_threshold;
}

-- ---- what reports say first

-- a value that is 0 is none
abbrev pub not_zero : Option ℕ → Option ℕ
not_zero None = None
not_zero (Some n) = if n == 0 then None else Some n

-- the smoothed RTT where there is no sample
abbrev pub before_sample : Rtts → Option ℕ
before_sample rtts = if is_some (not_zero rtts.latest) then None else not_zero rtts.smoothed

-- what was said first stays
abbrev pub reported_first : Report → Sources → Sources
reported_first r s = record s {
  smoothed = unwrap_or r.rtts.smoothed s.smoothed;
  first_smoothed = option_or s.first_smoothed (before_sample r.rtts);
  first_window = option_or s.first_window (not_zero r.bytes.window);
}

abbrev pub before_ack : Report → Sources → Sources
before_ack r s = if s.has_ack then s else reported_first r s

abbrev pub reported : Report → Sources → Sources
reported r s = record (before_ack r s) { has_window = s.has_window || is_some r.bytes.window }

-- ---- times

abbrev pub timed : ℕ → Sources → Sources
timed time s = record s {
  has_milliseconds = s.has_milliseconds && time % 1000000 == 0;
  has_nanoseconds = s.has_nanoseconds || not (time % 1000 == 0);
}

-- ---- a Retry

-- a client takes in one Retry at most (RFC 9000, section 17.2.5.2)
abbrev pub took : Retry → Sources → Sources
took retry s = record s { retry = option_or s.retry (Some retry) }

-- the log has it: the trace begins with the record behind it
abbrev pub logged : At → Sources → Retry
logged at s = record {
  first = next_index at.index;
  place = at.place;
  is_logged = true;
  numbers = s.last_numbers;
  rtt = None;
}

-- the log does not have it: the trace begins with the packet that shows it, and the sender may
-- assume the smoothed RTT (RFC 9002, section 6.3)
abbrev pub shown : At → Sources → Retry
shown at s = record {
  first = at.index;
  place = at.place;
  is_logged = false;
  numbers = s.last_numbers;
  rtt = not_zero (Some s.smoothed);
}

-- a packet goes elsewhere than the one before it
abbrev pub is_elsewhere : Option (List ℕ) → Option (List ℕ) → Bool
is_elsewhere None to = false
is_elsewhere (Some before) None = true
is_elsewhere (Some before) (Some to) = not (bytes_eq before to)

-- a client sends an Initial packet there before a packet came: if that is elsewhere, it has taken
-- in a Retry (RFC 9000, section 7.2)
abbrev pub sent_there : At → Option (List ℕ) → Sources → Sources
sent_there at to s =
    record (if is_elsewhere s.destination to then took (shown at s) s else s) { destination = to }

abbrev pub destined : Role → Space → Bool → At → Option (List ℕ) → Sources → Sources
destined Client Initial false at to s = sent_there at to s
destined _ _ _ at to s = s

abbrev pub numbered : LoggedPacket → Sources → Sources
numbered p s = record s { last_numbers = with_space p.space s.last_numbers (Some p.number) }

-- a packet was sent there
abbrev pub sent : LoggedPacket → At → Option (List ℕ) → Sources → Sources
sent p at to s = numbered p (destined s.role p.space s.has_received at to s)

-- a packet of no space came, which may be a Retry
abbrev pub came : Role → Bool → At → Sources → Sources
came Client true at s = took (logged at s) s
came _ _ at s = s

-- the RTT that the log says behind a Retry is that of the sender
abbrev pub without_rtt : Option ℕ → Option Retry → Option Retry
without_rtt (Some ns) (Some retry) = Some (record retry { rtt = None })
without_rtt _ retry = retry

-- ---- behind events

abbrev pub has_acks : LoggedPacket → Bool
has_acks p = has_some p.acks.items

-- what an event there says; a packet that was sent goes to that connection ID
abbrev pub said_by : Said → At → Option (List ℕ) → Sources → Sources
said_by (said.OfPeer p) at to s = record s { of_peer = both_said p s.of_peer }
said_by (said.Recovery p) at to s = record s {
  recovery = both_set p s.recovery;
  retry = without_rtt p.initial_rtt s.retry;
}
said_by (said.Sent p) at to s = sent p at to s
said_by (said.Received p) at to s =
    record s { has_received = true; has_ack = s.has_ack || has_acks p }
said_by (said.OtherReceived is_retry) at to s = came s.role is_retry at s
said_by (said.Report r) at to s = reported r s
said_by _ at to s = s

abbrev pub sources_by : Option (List ℕ) → LoggedEvent → Sources → Sources
sources_by to e s = said_by e.said e.at to (timed e.at.time s)

abbrev pub sources_after : Option (List ℕ) → List LoggedEvent → Sources → Sources
sources_after to all before = fold (λ s one. sources_by to one s) before all

-- where the packet of a record with this data goes
abbrev pub destination_of : Option Json → Option (List ℕ)
destination_of d = destination (header_of d) d

-- the RTT before a sample: that of the parameters of recovery, unless a Retry gives another one
abbrev pub rtt_behind : Option Retry → Option ℕ → Option ℕ
rtt_behind None said = said
rtt_behind (Some retry) said = option_or retry.rtt said

abbrev pub rtt_said : Sources → Option ℕ
rtt_said s = rtt_behind s.retry s.recovery.initial_rtt

-- by how many bits the delay on the wire is shifted: 3 if the peer does not say it (RFC 9000,
-- section 18.2)
abbrev pub exponent_of : Sources → ℕ
exponent_of s = unwrap_or s.of_peer.ack_delay_exponent 3
