-- What a report says of the state of the sender, by `RecoveryMetricsUpdated` of
-- draft-ietf-quic-qlog-quic-events.
use Rattle.std.specs.Prelude.{◌&&◌, ℕ, Bool, true, false, List, codes, nat_lt, bytes_eq, Option}
use Rattle.std.specs.Prelude.{Some, None, Result, Ok, if◌then◌else◌}
use Rattle.json.specs.Json.{Json, Members, no_members, member}
use Rattle.json.specs.Find.{as_object}
use Rattle.qa_base.specs.values.Limits.{max_packet_number}
use Rattle.qa_qlog.specs.declared.keys.Key.TheVariants as key
use Rattle.qa_qlog.specs.declared.keys.NoValue.{NoValue}
use Rattle.qa_qlog.specs.declared.metrics.Rtts.{Rtts}
use Rattle.qa_qlog.specs.declared.metrics.ByteCounts.{ByteCounts}
use Rattle.qa_qlog.specs.declared.times.Unit.{Unit}
use Rattle.qa_qlog.specs.Heads.{◌>>=◌}
use Rattle.qa_qlog.specs.Numbers.{optional_at, whole_in, duration_in}
use Rattle.qa_qlog.specs.Packets.{given}
use Rattle.qa_qlog.specs.Says.{key_at}

-- what a report says at a key, if it says it, or why that cannot be read
abbrev pub Said : Type 0
Said = Result (Option ℕ) NoValue

-- ---- times

abbrev pub rtts_of : Said → Said → Said → Said → Result Rtts NoValue
rtts_of latest min smoothed variance =
    latest >>= λ l. min >>= λ m. smoothed >>= λ s. variance >>= λ v. Ok (record {
      latest = l;
      min = m;
      smoothed = s;
      variance = v;
    })

abbrev pub rtts : Unit → Option Json → Result Rtts NoValue
rtts unit d = rtts_of (duration_in key.LatestRtt unit d) (duration_in key.MinRtt unit d)
    (duration_in key.SmoothedRtt unit d) (duration_in key.RttVariance unit d)

-- ---- sizes

abbrev pub sizes_of : Said → Said → Said → Result ByteCounts NoValue
sizes_of window ssthresh in_flight =
    window >>= λ w. ssthresh >>= λ s. in_flight >>= λ f. Ok (record {
      window = w;
      ssthresh = s;
      in_flight = f;
    })

-- drafts and stacks have three keys for it
abbrev pub window_at : Option Json → Option Json
window_at d = given (key_at (codes "congestion_window") d)
    (given (key_at (codes "cwnd") d) (key_at (codes "current_cwnd") d))

abbrev pub window : Option Json → Said
window d = optional_at key.CongestionWindow (window_at d)

-- a size that no packets can have, as the largest integer of 64 bits, is no threshold
abbrev pub threshold : Option ℕ → Option ℕ
threshold None = None
threshold (Some n) = if nat_lt max_packet_number n then None else Some n

abbrev pub ssthresh : Option Json → Said
ssthresh d = whole_in key.Ssthresh d >>= λ found. Ok (threshold found)

abbrev pub sizes : Option Json → Result ByteCounts NoValue
sizes d = sizes_of (window d) (ssthresh d) (whole_in key.BytesInFlight d)

-- ---- keys

-- all members have this key
abbrev pub are_all : List ℕ → Members → Bool
are_all key no_members = true
are_all key (member k j ms) = bytes_eq k key && are_all key ms

-- there are members, and all have this key
abbrev pub are_only : List ℕ → Members → Bool
are_only key no_members = false
are_only key (member k j ms) = bytes_eq k key && are_all key ms

abbrev pub has_only : List ℕ → Option Members → Bool
has_only key None = false
has_only key (Some ms) = are_only key ms

abbrev pub has_only_pto_count : Json → Bool
has_only_pto_count j = has_only (codes "pto_count") (as_object j)
