-- Printable ASCII is shown as it is.
use Rattle.std.proofs.Common.{◌≡◌, ◌≤◌, ◌<◌, ◌==◌, ℕ, false, arith, refl}
use Rattle.std.specs.Char.{is_control}
use Rattle.std.specs.Int.{is_in_range}
use Rattle.std.proofs.lemmas.Bool.{ne_eqb}
use Rattle.qa_check.specs.names.Names.{is_filler, is_selector, is_format, is_hidden}

below : (lo hi c : ℕ) → c < lo → is_in_range lo hi c ≡ false
below lo hi c low = grind (arith, low)

no_control : (c : ℕ) → 32 ≤ c → c ≤ 126 → is_control c ≡ false
no_control c low high = grind (arith, low, high)

other : (n c : ℕ) → c < n → (c == n) ≡ false
other n c low = ne_eqb c n (λ e. omega (arith, e, low))

no_filler : (c : ℕ) → c ≤ 126 → is_filler c ≡ false
unfolding is_filler
no_filler c high =
    rw (other 0x34F c (omega (arith, high)), below 0x115F 0x1160 c (omega (arith, high)), below 0x17B4 0x17B5 c (omega (arith, high)), other 0x3164 c (omega (arith, high)), other 0xFFA0 c (omega (arith, high))) refl

no_selector : (c : ℕ) → c ≤ 126 → is_selector c ≡ false
unfolding is_selector
no_selector c high = rw (below 0x180B 0x180F c (omega (arith, high)), below 0xFE00 0xFE0F c (omega (arith, high)), below 0xE0000 0xE0FFF c (omega (arith, high))) refl

no_format : (c : ℕ) → c ≤ 126 → is_format c ≡ false
unfolding is_format
no_format c high =
    rw (
      other 0xAD c (omega (arith, high)),
      other 0x61C c (omega (arith, high)),
      below 0x200B 0x200F c (omega (arith, high)),
      below 0x202A 0x202E c (omega (arith, high)),
      below 0x2060 0x206F c (omega (arith, high)),
      other 0xFEFF c (omega (arith, high)),
      below 0xFFF0 0xFFF8 c (omega (arith, high)),
      below 0x1BCA0 0x1BCA3 c (omega (arith, high)),
      below 0x1D173 0x1D17A c (omega (arith, high)),
    ) refl

pub not_hidden : (c : ℕ) → 32 ≤ c → c ≤ 126 → false ≡ is_hidden c
not_hidden c low high =
    rw (no_control c low high, below 0x2028 0x2029 c (omega (arith, high)), no_filler c high, no_selector c high, no_format c high) refl
