-- An acknowledgment of the numbers of one range, by which those of all its ranges are acknowledged.
use Rattle.std.specs.Prelude.{◌≡◌, ℕ, suc, ◌+◌, ◌-◌, ◌&&◌, nat_le, Bool, List, [], ◌∷◌, Option}
use Rattle.std.specs.Prelude.{Some, None, if◌then◌else◌, ◌<◌, ◌≤◌}
use Rattle.std.specs.List.{AllByRecursion}
use Rattle.qa_base.specs.declared.space.Space.{Space}
use Rattle.qa_base.specs.values.Events.{is_space}
use Rattle.qa_sent_packets.specs.Fates.{is_open, is_waiting}
use Rattle.qa_sent_packets.specs.Steps.{with_fate}
use Rattle.qa_sent_packets.specs.declared.fate.Fate.TheVariants.{Acknowledged}
use Rattle.qa_sent_packets.specs.declared.packet.SentPacket.{SentPacket}

abbrev pub is_between : ℕ → ℕ → ℕ → Bool
is_between lo hi n = nat_le lo n && nat_le n hi

-- the first entry from lo to hi
abbrev pub first_between : ℕ → ℕ → List (ℕ × ℕ) → Option (ℕ × ℕ)
first_between lo hi [] = None
first_between lo hi (e ∷ es) = if is_between lo hi e.0 then Some e else first_between lo hi es

-- the first entry with this number or a higher one
abbrev pub first_from : ℕ → List (ℕ × ℕ) → Option (ℕ × ℕ)
first_from lo [] = None
first_from lo (e ∷ es) = if nat_le lo e.0 then Some e else first_from lo es

-- of these entries none from one number on is below another
abbrev pub AreClear : ℕ → ℕ → List (ℕ × ℕ) → Type 0
AreClear lo least es = AllByRecursion (λ e. lo ≤ e.0 → least ≤ e.0) es

-- how many of these entries have no number above this one
abbrev pub count_to : ℕ → List (ℕ × ℕ) → ℕ
count_to hi [] = 0
count_to hi (e ∷ es) = if nat_le e.0 hi then suc (count_to hi es) else count_to hi es

-- how many of them have one from lo to hi
abbrev pub count_in : (lo hi : ℕ) → List (ℕ × ℕ) → ℕ
count_in lo hi [] = 0
count_in lo hi (e ∷ es) =
    if is_between lo hi e.0 then suc (count_in lo hi es) else count_in lo hi es

-- how many of them the ranges name, counted for each range
abbrev pub count_named : List (ℕ × ℕ) → List (ℕ × ℕ) → ℕ
count_named es [] = 0
count_named es (range ∷ ranges) = count_in range.0 range.1 es + count_named es ranges

-- there is room behind so many for the entries that these ranges name
abbrev pub HasRoom : (used room : ℕ) → List (ℕ × ℕ) → List (ℕ × ℕ) → Type 0
HasRoom used room es ranges = used + count_named es ranges ≤ room

-- how many numbers the range names
abbrev pub width : ℕ × ℕ → ℕ
width range = range.1 + 1 - range.0

-- the range names none of them
abbrev pub NamesNone : List (ℕ × ℕ) → ℕ × ℕ → Type 0
NamesNone es range = (range.0 ≤ range.1) × (first_between range.0 range.1 es ≡ None)

abbrev pub covered_in : Space → ℕ → ℕ → SentPacket → SentPacket
covered_in s lo hi p =
    if is_waiting s p && is_between lo hi p.number then with_fate Acknowledged p else p

-- open, of the space and from lo to hi
abbrev pub is_new_in : Space → ℕ → ℕ → SentPacket → Bool
is_new_in s lo hi p = is_space s p.space && is_open p.fate && is_between lo hi p.number

-- the first of these ranges begins above the number
abbrev pub BeginsAbove : ℕ → List (ℕ × ℕ) → Type 0
BeginsAbove n [] = Unit {0}
BeginsAbove n (range ∷ ranges) = n < range.0

-- each range begins above the end of the one before it
abbrev pub AreApart : List (ℕ × ℕ) → Type 0
AreApart [] = Unit {0}
AreApart (range ∷ ranges) = BeginsAbove range.1 ranges × AreApart ranges

-- and the first of them no lower than this number
abbrev pub AreApartFrom : ℕ → List (ℕ × ℕ) → Type 0
AreApartFrom next [] = Unit {0}
AreApartFrom next (range ∷ ranges) = (next ≤ range.0) × AreApartFrom (range.1 + 1) ranges
