-- The number of whole nanoseconds that a decimal text writes, as a time and as a duration.
-- `conformance/qlog/qlog-to-trace` also reads a number with white space around it or underscores in
-- it, and rounds one of more than 28 digits to so many. Here such a text is no number, and nothing
-- is rounded before the end.
use Rattle.std.specs.Prelude.{◌==◌, ◌&&◌, ◌+◌, ◌*◌, ◌/◌, ◌^◌, ℕ, ℤ, Bool, false, List, [], ◌∷◌}
use Rattle.std.specs.Prelude.{◌++◌, length, min}
use Rattle.std.specs.Prelude.{nat_le, nat_lt, codes, bytes_eq, Option, Some, None, Result, Ok, Err}
use Rattle.std.specs.Prelude.{if◌then◌else◌}
use Rattle.std.specs.List.{prefix_len}
use Rattle.std.specs.Str.Parse.{digits_value, starts_with_minus, without_leading_sign}
use Rattle.fast_float.specs.Text.{Parts, scan, has_digits, digits_of, tens_up, tens_down}
use Rattle.fast_float.specs.Text.{with_sign}
use Rattle.qa_qlog.specs.declared.times.NoTime.{NoTime}
use Rattle.qa_qlog.specs.declared.times.NoTime.TheVariants.{NotANumber, TooManyDigits, OutOfRange}
use Rattle.qa_qlog.specs.declared.times.Unit.{Unit}
use Rattle.qa_qlog.specs.declared.times.Unit.TheVariants as units

-- ---- units

-- a unit is 10 to the power of this many nanoseconds
abbrev pub places : Unit → ℕ
places units.Nanoseconds = 0
places units.Microseconds = 3
places units.Milliseconds = 6
places units.Seconds = 9

abbrev pub unit_named : List ℕ → Option Unit
unit_named text =
    if bytes_eq text (codes "ns") then Some units.Nanoseconds
    else if bytes_eq text (codes "us") then Some units.Microseconds
    else if bytes_eq text (codes "ms") then Some units.Milliseconds
    else None

-- ---- numbers

-- digits, perhaps with a point, and perhaps an exponent: these are all of the text
abbrev pub is_number : List ℕ → Bool
is_number text = has_digits (scan text) && ((scan text).len == length text)

abbrev pub digits : Parts → List ℕ
digits p = p.whole ++ p.fraction

abbrev pub is_zero : ℕ → Bool
is_zero digit = digit == 48

-- all digits are 0
abbrev pub is_nothing : List ℕ → Bool
is_nothing text =
    let p = scan (without_leading_sign text) in
    prefix_len is_zero (digits p) == length (digits p)

-- how many of the digits there are up to the first that is not 0, or up to the last
abbrev pub leading : List ℕ → ℕ
leading ds = min (prefix_len is_zero ds + 1) (length ds)

-- by how many places an exponent moves the point to the left
abbrev pub to_left : Parts → ℕ
to_left p = if p.exponent_negative then digits_value 10 p.exponent else 0

-- the first digit is at most so many places from the point
abbrev pub most_places : ℕ
most_places = 40

abbrev pub is_near : Parts → Bool
is_near p =
    nat_le (length p.whole + tens_up p) (leading (digits p) + to_left p + most_places)
    && nat_le (leading (digits p) + to_left p) (length p.whole + tens_up p + most_places)

-- a number without a sign, if it is one that is read
abbrev pub numeral : List ℕ → Result Parts NoTime
numeral text =
    if is_number text then
    if is_near (scan text) then Ok (scan text) else Err TooManyDigits
    else Err NotANumber

-- the nanoseconds of so many units, rounded down
abbrev pub size : Unit → Parts → ℕ
size unit p = digits_of p * 10 ^ (tens_up p + places unit) / 10 ^ tens_down p

-- ---- times and durations

abbrev pub limit : ℕ
limit = 2 ^ 63

-- a time is less than 2^63 nanoseconds from 0
abbrev pub time_of : Bool → ℕ → Result ℤ NoTime
time_of is_negative n = if nat_lt n limit then Ok (with_sign is_negative n) else Err OutOfRange

abbrev pub longest : ℕ
longest = 10 ^ 18

-- a duration has at most 10^18 nanoseconds, and none if the number is negative
abbrev pub duration_of : Bool → ℕ → Result ℕ NoTime
duration_of is_negative n =
    if is_negative then Ok 0
    else if nat_le n longest then Ok n
    else Err OutOfRange

abbrev pub on_numeral : {T : Type 0} → (ℕ → Result T NoTime) → Unit → Result Parts NoTime
    → Result T NoTime
on_numeral f unit (Ok p) = f (size unit p)
on_numeral f unit (Err fault) = Err fault

-- the time that a text says in a unit, rounded toward zero
abbrev pub time : Unit → List ℕ → Result ℤ NoTime
time unit text =
    on_numeral (time_of (starts_with_minus text)) unit (numeral (without_leading_sign text))

-- the duration that a text says in a unit, rounded down
abbrev pub duration : Unit → List ℕ → Result ℕ NoTime
duration unit text =
    on_numeral (duration_of (starts_with_minus text)) unit (numeral (without_leading_sign text))

-- ---- bodies

-- stands in a body for any larger number
abbrev pub cap : ℕ
cap = 2 ^ 65

-- a few digits after those of a small number fit into 64 bits
abbrev pub small : ℕ
small = 10 ^ 9

abbrev pub few : ℕ
few = 10

-- so many digits fit into 64 bits
abbrev pub fitting : ℕ
fitting = 19

-- not all digits are 0 then
abbrev pub begins_above_zero : List ℕ → Bool
begins_above_zero [] = false
begins_above_zero (digit ∷ digits) = nat_le 49 digit && nat_le digit 57
