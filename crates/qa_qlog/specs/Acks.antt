-- What an ACK frame says, by `ACKFrame` of draft-ietf-quic-qlog-quic-events.
use Rattle.std.specs.Prelude.{◌*◌, ◌^◌, ℕ, List, [], ◌∷◌, codes, nat_le, Option, Some, None}
use Rattle.std.specs.Prelude.{Result, Ok, Err, ok_or, if◌then◌else◌}
use Rattle.json.specs.Json.{Json, Items, no_items, item}
use Rattle.json.specs.Find.{get, as_array}
use Rattle.qa_base.specs.values.Limits.{max_packet_number, in_range}
use Rattle.qa_qlog.specs.declared.keys.Key.TheVariants as key
use Rattle.qa_qlog.specs.declared.keys.NoValue.{NoValue}
use Rattle.qa_qlog.specs.declared.keys.NoValue.TheVariants as no
use Rattle.qa_qlog.specs.declared.times.Unit.{Unit}
use Rattle.qa_qlog.specs.Frames.{listed}
use Rattle.qa_qlog.specs.Heads.{◌>>=◌}
use Rattle.qa_qlog.specs.Numbers.{whole_of, whole_or_zero, duration_or_zero}
use Rattle.qa_qlog.specs.Says.{says}
use Rattle.qa_qlog.specs.Times.{longest}

-- ---- ranges

abbrev pub number : Json → Result ℕ NoValue
number j = whole_of key.AckedRanges j
    >>= λ n. ok_or (in_range 0 max_packet_number n) (no.OutOfRange key.AckedRanges)

abbrev pub from_to : ℕ → ℕ → Result (ℕ × ℕ) NoValue
from_to low high = if nat_le low high then Ok (low, high) else Err (no.OutOfRange key.AckedRanges)

abbrev pub single : Json → Result (ℕ × ℕ) NoValue
single j = number j >>= λ n. from_to n n

abbrev pub span : Json → Json → Result (ℕ × ℕ) NoValue
span first last = number first >>= λ low. number last >>= λ high. from_to low high

abbrev pub in_list : Items → Result (ℕ × ℕ) NoValue
in_list (item a no_items) = single a
in_list (item a (item b no_items)) = span a b
in_list _ = Err (no.OtherKind key.AckedRanges)

abbrev pub range_at : Json → Option Items → Result (ℕ × ℕ) NoValue
range_at j None = single j
range_at j (Some js) = in_list js

-- a range of one packet may be a number, or a list of one; others are lists of two
abbrev pub range_of : Json → Result (ℕ × ℕ) NoValue
range_of j = range_at j (as_array j)

abbrev pub ranges_of : List Json → Result (List (ℕ × ℕ)) NoValue
ranges_of [] = Ok []
ranges_of (j ∷ js) = range_of j >>= λ range. ranges_of js >>= λ ranges. Ok (range ∷ ranges)

abbrev pub ranges_in : Option Items → Result (List (ℕ × ℕ)) NoValue
ranges_in None = Err (no.OtherKind key.AckedRanges)
ranges_in (Some js) = ranges_of (listed js)

abbrev pub ranges_at : Option Json → Result (List (ℕ × ℕ)) NoValue
ranges_at None = Ok []
ranges_at (Some j) = if says j then ranges_in (as_array j) else Ok []

abbrev pub ranges : Json → Result (List (ℕ × ℕ)) NoValue
ranges j = ranges_at (get (codes "acked_ranges") j)

-- ---- the delay

abbrev pub shifted : ℕ → ℕ → Result ℕ NoValue
shifted exponent delay =
    if nat_le (delay * 2 ^ exponent) longest then Ok (delay * 2 ^ exponent)
    else Err (no.OutOfRange key.AckDelay)

-- the nanoseconds of the delay. In a log that has delays as they are on the wire, they are shifted
-- by the `ack_delay_exponent` (RFC 9000, section 19.3); in others by 0
abbrev pub delay : Unit → ℕ → Json → Result ℕ NoValue
delay unit exponent j =
    duration_or_zero key.AckDelay unit (get (codes "ack_delay") j) >>= shifted exponent

-- ---- ECN

abbrev pub ce_count : Json → Result ℕ NoValue
ce_count j = whole_or_zero key.Ce (get (codes "ce") j)
