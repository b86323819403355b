-- What is decided by the parts of a millisecond that a log cuts off, in nanoseconds.
use Rattle.std.specs.Prelude.{◌+◌, ◌-◌, ◌*◌, ◌/◌, ◌&&◌, ◌^◌, ℕ, Bool, Option, None, Some}
use Rattle.std.specs.Prelude.{min, nat_le, nat_lt, not}
use Rattle.std.specs.Prelude.{if◌then◌else◌}
use Rattle.qa_convert.specs.declared.rounding.Age.{Age}
use Rattle.qa_convert.specs.declared.rounding.Estimate.{Estimate}
use Rattle.qa_convert.specs.declared.rounding.Reports.{Reports}
use Rattle.qa_convert.specs.declared.rounding.Sample.{Sample}

-- how far two numbers are apart
abbrev pub apart : ℕ → ℕ → ℕ
apart m n = if nat_lt m n then n - m else m - n

-- half of what is cut off a value at most
abbrev pub half : ℕ
half = 500000

-- the delay is subtracted by these numbers (RFC 9002, section 5.3)
abbrev pub is_subtracted : Sample → Bool
is_subtracted s = nat_le (s.minimum + s.delay) s.latest

-- the sample without the delay, or with it
abbrev pub adjusted : Sample → Bool → ℕ
adjusted s subtracted = if subtracted then s.latest - s.delay else s.latest

-- the estimate behind a sample (RFC 9002, section 5.3)
abbrev pub smoothed_after : Estimate → ℕ → ℕ
smoothed_after before sample = (7 * (before.smoothed_rtt + half) + sample) / 8

abbrev pub rttvar_after : Estimate → ℕ → ℕ
rttvar_after before sample =
    (3 * (before.rttvar + half) + apart (before.smoothed_rtt + half) sample) / 4

-- how far that is from what is reported
abbrev pub distance : Sample → Estimate → Estimate → Bool → ℕ
distance s before after subtracted =
    apart (smoothed_after before (adjusted s subtracted)) (after.smoothed_rtt + half)
    + apart (rttvar_after before (adjusted s subtracted)) (after.rttvar + half)

-- the sides are equal but for what is cut off, and the other decision is nearer to the reports
abbrev pub is_otherwise : Sample → Estimate → Estimate → Bool
is_otherwise s before after =
    not (nat_lt 2000000 (apart s.latest (s.minimum + s.delay)))
    && nat_lt (distance s before after (not (is_subtracted s)) + half)
    (distance s before after (is_subtracted s))

-- a duration, or the longest one there may be
abbrev pub shorter_of : ℕ → Option ℕ → ℕ
shorter_of duration None = duration
shorter_of duration (Some longest) = min duration longest

-- the least sample so far
abbrev pub least_of : Option ℕ → ℕ → ℕ
least_of None latest = latest
least_of (Some held) latest = min held latest

-- the delay by which the other decision comes: the longest that would be subtracted, or one that is
-- longer by a microsecond
abbrev pub other : Sample → ℕ
other s =
    if is_subtracted s then min (s.latest - s.minimum + 1000) (2 ^ 64 - 1) else s.latest - s.minimum

-- the delay that decides as the reports show: the one that is said, or the other if it is not too
-- long
abbrev pub settled_by : Sample → ℕ → Option ℕ → Reports → ℕ
settled_by s delay longest reports =
    if is_otherwise s reports.before reports.after
    && nat_le (other s) (shorter_of (other s) longest) then other s else delay

-- the same with the least sample before it, once a sample was taken
abbrev pub settled : Option ℕ → ℕ → ℕ → Option ℕ → Option Reports → ℕ
settled None latest delay longest reports = delay
settled (Some held) latest delay longest None = delay
settled (Some held) latest delay longest (Some reports) =
    settled_by (record {
      latest = latest;
      minimum = min held latest;
      delay = shorter_of delay longest;
    }) delay longest reports

-- when a packet is lost by its age (RFC 9002, section 6.1.2)
abbrev pub loss_delay : Age → ℕ
loss_delay a = a.rtt * a.eighths / 8

-- it is younger than that, whatever was cut off
abbrev pub is_young : Age → Bool
is_young a = nat_lt (a.age + half) (loss_delay a)

-- it is younger or older by what was cut off
abbrev pub is_open : Age → Bool
is_open a = not (is_young a) && nat_le a.age (loss_delay a + 3000000)
