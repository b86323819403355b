-- A time as people read it, exact: in seconds from one on, in milliseconds from a tenth of one on,
-- in microseconds from one on, and else in the unit of the trace.
use Rattle.std.specs.Prelude.{ℕ, ◌/◌, ◌%◌, ◌==◌, nat_le, codes, decimal, List, [], ◌++◌}
use Rattle.std.specs.Prelude.{if◌then◌else◌}
use Rattle.qa_base.specs.declared.space.TimeUnit.{TimeUnit}
use Rattle.qa_base.specs.declared.space.TimeUnit.TheVariants.{Microseconds, Nanoseconds}
use Rattle.qa_base.specs.values.Names.{unit_name}
use Rattle.qa_base.specs.values.Settings.{in_unit}
use Rattle.qa_explain.specs.text.Pieces.{named}
use Rattle.qa_explain.specs.declared.text.times.Places.{Places}
use Rattle.qa_explain.specs.declared.text.times.Places.TheVariants as places

-- ---- the digits behind a point, without the zeros at the end

unfoldable pub three_digits : ℕ → List ℕ
three_digits n = decimal (n / 100) ++ decimal (n / 10 % 10) ++ decimal (n % 10)

unfoldable pub two_digits : ℕ → List ℕ
two_digits n = decimal (n / 10) ++ decimal (n % 10)

abbrev pub tenths : ℕ → List ℕ
tenths n = if n == 0 then [] else decimal n

abbrev pub hundredths : ℕ → List ℕ
hundredths n = if n % 10 == 0 then tenths (n / 10) else two_digits n

abbrev pub thousandths : ℕ → List ℕ
thousandths n = if n % 10 == 0 then hundredths (n / 10) else three_digits n

-- behind three more digits
unfoldable pub after_thousandths : ℕ → List ℕ
after_thousandths n = three_digits (n / 1000) ++ thousandths (n % 1000)

abbrev pub millionths : ℕ → List ℕ
millionths n = if n % 1000 == 0 then thousandths (n / 1000) else after_thousandths n

unfoldable pub after_millionths : ℕ → List ℕ
after_millionths n = three_digits (n / 1000000) ++ after_thousandths (n % 1000000)

abbrev pub billionths : ℕ → List ℕ
billionths n = if n % 1000 == 0 then millionths (n / 1000) else after_millionths n

-- ---- a number with so many digits behind the point

-- how many parts a whole has
abbrev pub parts : Places → ℕ
parts places.Zero = 1
parts places.Three = 1000
parts places.Six = 1000000
parts places.Nine = 1000000000

abbrev pub digits : Places → ℕ → List ℕ
digits places.Zero n = []
digits places.Three n = thousandths n
digits places.Six n = millionths n
digits places.Nine n = billionths n

unfoldable pub point_text : Places → ℕ → List ℕ
point_text p n = codes "." ++ digits p n

-- none of a whole number
abbrev pub fraction_text : Places → ℕ → List ℕ
fraction_text p n = if n == 0 then [] else point_text p n

-- so many parts, in a unit of this name
unfoldable pub scaled_text : Places → ℕ → List ℕ → List ℕ
scaled_text p n name =
    decimal (n / parts p) ++ fraction_text p (n % parts p) ++ named (codes " ") name

-- ---- a time in the unit of a trace

abbrev pub second_places : TimeUnit → Places
second_places Microseconds = places.Six
second_places Nanoseconds = places.Nine

abbrev pub millisecond_places : TimeUnit → Places
millisecond_places Microseconds = places.Three
millisecond_places Nanoseconds = places.Six

abbrev pub microsecond_places : TimeUnit → Places
microsecond_places Microseconds = places.Zero
microsecond_places Nanoseconds = places.Three

abbrev pub time_text : TimeUnit → ℕ → List ℕ
time_text u n =
    if nat_le (in_unit u 1000000) n then scaled_text (second_places u) n (codes "s")
    else if nat_le (in_unit u 100) n then scaled_text (millisecond_places u) n (codes "ms")
    else if nat_le (in_unit u 1) n then scaled_text (microsecond_places u) n (codes "us")
    else scaled_text places.Zero n (unit_name u)

unfoldable pub timed : List ℕ → TimeUnit → ℕ → List ℕ
timed words u n = words ++ time_text u n
