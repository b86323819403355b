-- The numbers that spans name, one after another in rising order.
use Rattle.std.specs.Prelude.{◌≡◌, ◌≤◌, ◌<◌, ◌+◌, ℕ, Bool, true, false, List, [], ◌∷◌, drop, length}
use Rattle.std.specs.Prelude.{reverse, Option, Some, None}
use Rattle.qa_base.specs.values.Events.{is_named}
use Rattle.qa_base.specs.values.Limits.{max_packet_number}
use Rattle.qa_sent_packets.specs.declared.named.NamedNumbers.{NamedNumbers}
use Rattle.qa_sent_packets.specs.declared.named.Stretch.{Stretch}

-- the spans from the last to the first, or as they stand
abbrev pub turned : Bool → List (ℕ × ℕ) → List (ℕ × ℕ)
turned true spans = reverse spans
turned false spans = spans

-- each span begins no lower than the one before it, and the first no lower than this number
abbrev pub AreRisingFrom : ℕ → List (ℕ × ℕ) → Type 0
AreRisingFrom low [] = Unit {0}
AreRisingFrom low (span ∷ spans) = (low ≤ span.0) × AreRisingFrom span.0 spans

-- the span ends below this number
abbrev pub EndsBelow : ℕ → ℕ × ℕ → Type 0
EndsBelow n span = (span.0 ≤ span.1) × (span.1 < n)

-- ---- of the numbers that pass a test, those from a number on

abbrev pub NoneFrom : (ℕ → Bool) → ℕ → Type 0
NoneFrom test from = (n : ℕ) → from ≤ n → test n ≡ false

-- the first of them begin this stretch
pub record IsFirstStretch (test : ℕ → Bool) (from : ℕ) (stretch : Stretch) : Type 0 where
  pub low : from ≤ stretch.start
  pub some : stretch.start < stretch.end
  pub high : stretch.end ≤ max_packet_number + 1
  pub before : (n : ℕ) → from ≤ n → n < stretch.start → test n ≡ false
  pub within : (n : ℕ) → stretch.start ≤ n → n < stretch.end → test n ≡ true

-- a stretch of the first, or there are none
abbrev pub IsStretch : (ℕ → Bool) → ℕ → Option Stretch → Type 0
IsStretch test from None = NoneFrom test from
IsStretch test from (Some stretch) = IsFirstStretch test from stretch

-- this is the first of them
pub record IsFirst (test : ℕ → Bool) (from n : ℕ) : Type 0 where
  pub low : from ≤ n
  pub before : (m : ℕ) → from ≤ m → m < n → test m ≡ false
  pub here : test n ≡ true

-- the first, or there are none
abbrev pub IsNext : (ℕ → Bool) → ℕ → Option ℕ → Type 0
IsNext test from None = NoneFrom test from
IsNext test from (Some n) = IsFirst test from n

-- ---- of the numbers that pass a test, some that have to come, and no others but those that may

-- from a number on none but those that may
abbrev pub AreOnly : (test may : ℕ → Bool) → ℕ → Type 0
AreOnly test may from = (n : ℕ) → from ≤ n → test n ≡ true → may n ≡ true

-- this one comes, and before it none but those that may
pub record IsNextOf (test may : ℕ → Bool) (from m : ℕ) : Type 0 where
  pub low : from ≤ m
  pub before : (n : ℕ) → from ≤ n → n < m → test n ≡ true → may n ≡ true
  pub here : test m ≡ true

-- these come in rising order
abbrev pub AreNext : (test may : ℕ → Bool) → ℕ → List ℕ → Type 0
AreNext test may from [] = AreOnly test may from
AreNext test may from (m ∷ ms) = IsNextOf test may from m × AreNext test may (m + 1) ms

-- ---- a walk along the numbers that spans name

pub record IsWalk (spans : List (ℕ × ℕ)) (walk : NamedNumbers) : Type 0 where
  pub within : walk.passed ≤ length spans
  pub high : walk.to ≤ max_packet_number + 1
  pub stretch : (n : ℕ) → walk.from ≤ n → n < walk.to → is_named spans n ≡ true
  pub left : (n : ℕ) → walk.from ≤ n
      → is_named spans n ≡ is_named (drop walk.passed (turned walk.falling spans)) n
  pub order : walk.in_order ≡ true → AreRisingFrom 0 (drop walk.passed (turned walk.falling spans))
