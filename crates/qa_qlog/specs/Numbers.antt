-- Whole numbers and durations, which a log may write as strings, with a point or an exponent.
use Rattle.std.specs.Prelude.{◌==◌, ◌&&◌, ◌^◌, ℕ, Bool, List, drop, nat_lt, Option, Some, None}
use Rattle.std.specs.Prelude.{Result, Ok, Err, ok_or, option_and_then, if◌then◌else◌}
use Rattle.std.specs.Str.Parse.{digits_value, starts_with_minus, without_leading_sign}
use Rattle.fast_float.specs.Text.{Parts, scan, point_at, whole_of as value_of}
use Rattle.json.specs.Json.{Json}
use Rattle.json.specs.Find.{is_null}
use Rattle.qa_base.specs.values.Limits.{in_range}
use Rattle.qa_qlog.specs.declared.keys.Key.{Key}
use Rattle.qa_qlog.specs.declared.keys.NoValue.{NoValue}
use Rattle.qa_qlog.specs.declared.keys.NoValue.TheVariants as no
use Rattle.qa_qlog.specs.declared.times.NoTime.{NoTime}
use Rattle.qa_qlog.specs.declared.times.NoTime.TheVariants as time
use Rattle.qa_qlog.specs.declared.times.Unit.{Unit}
use Rattle.qa_qlog.specs.Heads.{◌>>=◌}
use Rattle.qa_qlog.specs.Keys.{name_of, least, largest}
use Rattle.qa_qlog.specs.Records.{written}
use Rattle.qa_qlog.specs.Says.{says, key_at}
use Rattle.qa_qlog.specs.Times.{digits, duration, is_number}

-- ---- texts

-- the digits after the point, once the exponent has moved that, are all 0
abbrev pub is_whole : Parts → Bool
is_whole p = digits_value 10 (drop (point_at p) (digits p)) == 0

-- the whole number of 64 bits that all of a text without a sign is
abbrev pub unsigned : List ℕ → Option ℕ
unsigned text =
    if is_number text && (is_whole (scan text) && nat_lt (value_of (scan text)) (2 ^ 64))
    then Some (value_of (scan text)) else None

abbrev pub not_below : Bool → ℕ → Option ℕ
not_below is_negative n = if is_negative && nat_lt 0 n then None else Some n

-- the whole number of 64 bits that all of a text is; -0 is 0
abbrev pub whole : List ℕ → Option ℕ
whole text =
    option_and_then (not_below (starts_with_minus text)) (unsigned (without_leading_sign text))

-- ---- values

abbrev pub ranged : Key → ℕ → Result ℕ NoValue
ranged key n = ok_or (in_range (least key) (largest key) n) (no.OutOfRange key)

abbrev pub whole_of : Key → Json → Result ℕ NoValue
whole_of key j = ok_or (whole (written j)) (no.NotWhole key) >>= ranged key

-- none if there is nothing, or null
abbrev pub optional_at : Key → Option Json → Result (Option ℕ) NoValue
optional_at key None = Ok None
optional_at key (Some j) = if is_null j then Ok None else (whole_of key j >>= λ n. Ok (Some n))

abbrev pub whole_at : Key → Option Json → Result ℕ NoValue
whole_at key o = optional_at key o >>= λ found. ok_or found (no.Missing key)

-- 0 if it says nothing
abbrev pub whole_or_zero : Key → Option Json → Result ℕ NoValue
whole_or_zero key None = Ok 0
whole_or_zero key (Some j) = if says j then whole_of key j else Ok 0

-- ---- durations

abbrev pub no_time : Key → NoTime → NoValue
no_time key time.NotANumber = no.NotANumber key
no_time key time.TooManyDigits = no.TooManyDigits key
no_time key time.OutOfRange = no.OutOfRange key

abbrev pub timed : Key → Result ℕ NoTime → Result ℕ NoValue
timed key (Ok n) = Ok n
timed key (Err why) = Err (no_time key why)

-- the nanoseconds of a duration in this unit
abbrev pub duration_of : Key → Unit → Json → Result ℕ NoValue
duration_of key unit j = timed key (duration unit (written j))

abbrev pub duration_or_zero : Key → Unit → Option Json → Result ℕ NoValue
duration_or_zero key unit None = Ok 0
duration_or_zero key unit (Some j) = if says j then duration_of key unit j else Ok 0

-- none if there is nothing, or null
abbrev pub optional_duration : Key → Unit → Option Json → Result (Option ℕ) NoValue
optional_duration key unit None = Ok None
optional_duration key unit (Some j) =
    if is_null j then Ok None else (duration_of key unit j >>= λ n. Ok (Some n))

-- ---- in the data of a record

abbrev pub whole_in : Key → Option Json → Result (Option ℕ) NoValue
whole_in key d = optional_at key (key_at (name_of key) d)

abbrev pub duration_in : Key → Unit → Option Json → Result (Option ℕ) NoValue
duration_in key unit d = optional_duration key unit (key_at (name_of key) d)
