-- Digits that are read several at once.
use Rattle.std.specs.Prelude.{◌≡◌, ◌≤◌, ◌<◌, ◌+◌, ◌*◌, ◌^◌, ℕ, List, length, take, get_or, decimal}

-- the first so many bytes are the digits of this number, which does not begin with zero
pub record IsFront (bytes : List ℕ) (i n : ℕ) : Type 0 where
  pub some : 1 ≤ i
  pub few : i ≤ 8
  pub within : i ≤ length bytes
  pub is_text : take i bytes ≡ decimal n
  pub positive : 0 < n
  pub small : n < 10 ^ i

-- a byte at a place, as a number
abbrev pub byte_at : List ℕ → ℕ → ℕ
byte_at bs i = get_or bs i 0

-- the number is the first eight bytes, the first of them its lowest byte
pub record IsWord (bs : List ℕ) (v : ℕ) : Type 0 where
  pub is : v ≡ get_or bs 0 0 + get_or bs 1 0 * 256 + get_or bs 2 0 * 65536
      + get_or bs 3 0 * 16777216 + get_or bs 4 0 * 4294967296 + get_or bs 5 0 * 1099511627776
      + get_or bs 6 0 * 281474976710656 + get_or bs 7 0 * 72057594037927936
  pub b0 : get_or bs 0 0 < 256
  pub b1 : get_or bs 1 0 < 256
  pub b2 : get_or bs 2 0 < 256
  pub b3 : get_or bs 3 0 < 256
  pub b4 : get_or bs 4 0 < 256
  pub b5 : get_or bs 5 0 < 256
  pub b6 : get_or bs 6 0 < 256
  pub b7 : get_or bs 7 0 < 256

abbrev pub IsDigit : ℕ → Type 0
IsDigit x = (48 ≤ x) × (x ≤ 57)

-- the first eight bytes are digits
pub record AreEightDigits (bs : List ℕ) : Type 0 where
  pub d0 : IsDigit (get_or bs 0 0)
  pub d1 : IsDigit (get_or bs 1 0)
  pub d2 : IsDigit (get_or bs 2 0)
  pub d3 : IsDigit (get_or bs 3 0)
  pub d4 : IsDigit (get_or bs 4 0)
  pub d5 : IsDigit (get_or bs 5 0)
  pub d6 : IsDigit (get_or bs 6 0)
  pub d7 : IsDigit (get_or bs 7 0)

-- the number of the first eight bytes, each a digit, with 48 for each zero
abbrev pub IsEightValue : List ℕ → ℕ → Type 0
IsEightValue bs n =
    n + 533333328 ≡ ((get_or bs 0 0 * 10 + get_or bs 1 0) * 100
    + (get_or bs 2 0 * 10 + get_or bs 3 0)) * 10000
    + ((get_or bs 4 0 * 10 + get_or bs 5 0) * 100 + (get_or bs 6 0 * 10 + get_or bs 7 0))
