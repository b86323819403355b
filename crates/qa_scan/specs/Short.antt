-- Integers of at most sixteen digits that are read by vectors.
use Rattle.std.specs.Prelude.{◌≡◌, ◌≤◌, ◌<◌, ◌+◌, ◌*◌, ◌^◌, ◌∷◌, [], ⊤, ℕ, zero, suc, List, get_or}
use Rattle.std.specs.Prelude.{take, decimal}

-- a lane below ten is its byte less the digit zero
abbrev pub AreLessZero : List ℕ → List ℕ → Type 0
AreLessZero lanes bytes =
    (j : ℕ) → j < 16 → get_or lanes j 0 < 10 → get_or bytes j 0 ≡ get_or lanes j 0 + 48

-- the first so many lanes are digits
abbrev pub AreDigits : List ℕ → ℕ → Type 0
AreDigits lanes digits = (j : ℕ) → j < digits → get_or lanes j 0 < 10

-- the number of which they are the digits
abbrev pub number_of : List ℕ → ℕ → ℕ
number_of lanes zero = 0
number_of lanes (suc i) = number_of lanes i * 10 + get_or lanes i 0

-- each of these is below b
abbrev pub AllBelow : ℕ → List ℕ → Type 0
AllBelow b [] = ⊤
AllBelow b (x ∷ xs) = (x < b) × AllBelow b xs

-- two neighbours as one number in base b
abbrev pub in_pairs : ℕ → List ℕ → List ℕ
in_pairs b [] = []
in_pairs b (x ∷ []) = []
in_pairs b (x ∷ y ∷ xs) = (x * b + y) ∷ in_pairs b xs

-- the number of which sixteen lanes are the digits
abbrev pub sixteen_value : List ℕ → ℕ
sixteen_value lanes =
    get_or (in_pairs 100000000 (in_pairs 10000 (in_pairs 100 (in_pairs 10 lanes)))) 0 0

-- the first so many bytes are the digits of this number, where it is not zero
pub record IsShort (bytes : List ℕ) (n digits : ℕ) : Type 0 where
  pub is_text : 0 < n → take digits bytes ≡ decimal n
  pub few : digits ≤ 16
  pub small : n < 10 ^ 16

-- the number is the two bytes at this place
pub record AreTwoCodes (bytes : List ℕ) (place codes : ℕ) : Type 0 where
  pub are : codes ≡ get_or bytes place 0 + 256 * get_or bytes (place + 1) 0
  pub first : get_or bytes place 0 < 256
  pub second : get_or bytes (place + 1) 0 < 256
