-- Eight bytes in one number: their top bits, and the number of which they are the digits.
use Rattle.std.proofs.Common.{◌≡◌, ◌∙◌, ℕ, ◌+◌, ◌*◌, ◌%◌, ◌<◌, ◌≤◌, ◌^◌, List, get_or, refl, sym, ap, arith}
use Rattle.std.specs.Int.RustNames.{bit_and}
use Rattle.std.proofs.lemmas.Nat.{and_block, and_le_r}
use Rattle.std.proofs.lemmas.Nat.Bits.{and_pow}
use Rattle.std.specs.Int.{bit_at}
use Rattle.qa_scan.specs.Digits.{IsWord, AreEightDigits}

-- ---- one byte

top_clear : (r : ℕ) → r < 256 → bit_and r 128 ≡ 0 → r < 128
top_clear r small none = let bit : bit_at r 7 * 128 ≡ 0 = sym (and_pow r 7) ∙ none in omega (arith, bit)

top_set : (r : ℕ) → r < 256 → bit_and r 128 ≡ 128 → 128 ≤ r
top_set r small one = let bit : bit_at r 7 * 128 ≡ 128 = sym (and_pow r 7) ∙ one in omega (arith, bit)

block_clear : (a r m x y : ℕ) → r < 256 → x ≡ a * 256 + r → y ≡ m * 256 + 128 → bit_and x y ≡ 0 → (bit_and a m ≡ 0) × (r < 128)
block_clear a r m x y small is_x is_y none =
    let split = sym (and_block 8 a m r 128 small (omega arith)) ∙ ap (λ p. bit_and p (m * 256 + 128)) (sym is_x) ∙ ap (λ p. bit_and x p) (sym is_y) ∙ none in
    (omega (arith, split), top_clear r small (omega (arith, split)))

block_set : (a r m x y : ℕ) → r < 256 → x ≡ a * 256 + r → y ≡ m * 256 + 128 → bit_and x y ≡ y → (bit_and a m ≡ m) × (128 ≤ r)
block_set a r m x y small is_x is_y all =
    let split : bit_and a m * 256 + bit_and r 128 ≡ m * 256 + 128 = sym (and_block 8 a m r 128 small (omega arith)) ∙ ap (λ p. bit_and p (m * 256 + 128)) (sym is_x) ∙ ap (λ p. bit_and x p) (sym is_y) ∙ all ∙ is_y in
    let low : bit_and r 128 ≤ 128 = and_le_r r 128 in
    let high : bit_and a m ≤ m = and_le_r a m in
    (omega (arith, split, low, high), top_set r small (omega (arith, split, low, high)))

-- ---- eight bytes

-- a fact of each of eight numbers
pub record Each (P : ℕ → Type 0) (r0 r1 r2 r3 r4 r5 r6 r7 : ℕ) : Type 0 where
  pub p0 : P r0
  pub p1 : P r1
  pub p2 : P r2
  pub p3 : P r3
  pub p4 : P r4
  pub p5 : P r5
  pub p6 : P r6
  pub p7 : P r7

pub tops_clear : (x r0 r1 r2 r3 r4 r5 r6 r7 : ℕ) → Each (λ r. r < 256) r0 r1 r2 r3 r4 r5 r6 r7 → x ≡ r0 + r1 * 256 + r2 * 65536 + r3 * 16777216 + r4 * 4294967296 + r5 * 1099511627776 + r6 * 281474976710656 + r7 * 72057594037927936
    → bit_and x 9259542123273814144 ≡ 0 → Each (λ r. r < 128) r0 r1 r2 r3 r4 r5 r6 r7
tops_clear x r0 r1 r2 r3 r4 r5 r6 r7 small is h =
    let x1 : ℕ = r1 + r2 * 256 + r3 * 65536 + r4 * 16777216 + r5 * 4294967296 + r6 * 1099511627776 + r7 * 281474976710656 in
    let x2 : ℕ = r2 + r3 * 256 + r4 * 65536 + r5 * 16777216 + r6 * 4294967296 + r7 * 1099511627776 in
    let x3 : ℕ = r3 + r4 * 256 + r5 * 65536 + r6 * 16777216 + r7 * 4294967296 in
    let x4 : ℕ = r4 + r5 * 256 + r6 * 65536 + r7 * 16777216 in
    let x5 : ℕ = r5 + r6 * 256 + r7 * 65536 in
    let x6 : ℕ = r6 + r7 * 256 in
    let x7 : ℕ = r7 in
    let s0 = block_clear x1 r0 36170086419038336 x 9259542123273814144 small.p0 (omega (arith, is)) refl h in
    let s1 = block_clear x2 r1 141289400074368 x1 36170086419038336 small.p1 (omega arith) refl s0.0 in
    let s2 = block_clear x3 r2 551911719040 x2 141289400074368 small.p2 (omega arith) refl s1.0 in
    let s3 = block_clear x4 r3 2155905152 x3 551911719040 small.p3 (omega arith) refl s2.0 in
    let s4 = block_clear x5 r4 8421504 x4 2155905152 small.p4 (omega arith) refl s3.0 in
    let s5 = block_clear x6 r5 32896 x5 8421504 small.p5 (omega arith) refl s4.0 in
    let s6 = block_clear x7 r6 128 x6 32896 small.p6 (omega arith) refl s5.0 in
    let s7 = block_clear 0 r7 0 x7 128 small.p7 (omega arith) refl s6.0 in
    record { p0 = s0.1; p1 = s1.1; p2 = s2.1; p3 = s3.1; p4 = s4.1; p5 = s5.1; p6 = s6.1; p7 = s7.1 }

pub tops_set : (x r0 r1 r2 r3 r4 r5 r6 r7 : ℕ) → Each (λ r. r < 256) r0 r1 r2 r3 r4 r5 r6 r7 → x ≡ r0 + r1 * 256 + r2 * 65536 + r3 * 16777216 + r4 * 4294967296 + r5 * 1099511627776 + r6 * 281474976710656 + r7 * 72057594037927936
    → bit_and x 9259542123273814144 ≡ 9259542123273814144 → Each (λ r. 128 ≤ r) r0 r1 r2 r3 r4 r5 r6 r7
tops_set x r0 r1 r2 r3 r4 r5 r6 r7 small is h =
    let x1 : ℕ = r1 + r2 * 256 + r3 * 65536 + r4 * 16777216 + r5 * 4294967296 + r6 * 1099511627776 + r7 * 281474976710656 in
    let x2 : ℕ = r2 + r3 * 256 + r4 * 65536 + r5 * 16777216 + r6 * 4294967296 + r7 * 1099511627776 in
    let x3 : ℕ = r3 + r4 * 256 + r5 * 65536 + r6 * 16777216 + r7 * 4294967296 in
    let x4 : ℕ = r4 + r5 * 256 + r6 * 65536 + r7 * 16777216 in
    let x5 : ℕ = r5 + r6 * 256 + r7 * 65536 in
    let x6 : ℕ = r6 + r7 * 256 in
    let x7 : ℕ = r7 in
    let s0 = block_set x1 r0 36170086419038336 x 9259542123273814144 small.p0 (omega (arith, is)) refl h in
    let s1 = block_set x2 r1 141289400074368 x1 36170086419038336 small.p1 (omega arith) refl s0.0 in
    let s2 = block_set x3 r2 551911719040 x2 141289400074368 small.p2 (omega arith) refl s1.0 in
    let s3 = block_set x4 r3 2155905152 x3 551911719040 small.p3 (omega arith) refl s2.0 in
    let s4 = block_set x5 r4 8421504 x4 2155905152 small.p4 (omega arith) refl s3.0 in
    let s5 = block_set x6 r5 32896 x5 8421504 small.p5 (omega arith) refl s4.0 in
    let s6 = block_set x7 r6 128 x6 32896 small.p6 (omega arith) refl s5.0 in
    let s7 = block_set 0 r7 0 x7 128 small.p7 (omega arith) refl s6.0 in
    record { p0 = s0.1; p1 = s1.1; p2 = s2.1; p3 = s3.1; p4 = s4.1; p5 = s5.1; p6 = s6.1; p7 = s7.1 }

-- ---- digits

pub digits_are : (bs : List ℕ) (v low high : ℕ) → IsWord bs v → bit_and v 9259542123273814144 ≡ 0 → low ≡ (v + 5063812098665367110) % 2 ^ 64 → bit_and low 9259542123273814144 ≡ 0
    → high ≡ (v + 5787213827046133840) % 2 ^ 64 → bit_and high 9259542123273814144 ≡ 9259542123273814144 → AreEightDigits bs
digits_are bs v low high word clear is_low low_clear is_high high_set =
    let c = tops_clear v (get_or bs 0 0) (get_or bs 1 0) (get_or bs 2 0) (get_or bs 3 0) (get_or bs 4 0) (get_or bs 5 0) (get_or bs 6 0) (get_or bs 7 0) (record { p0 = word.b0; p1 = word.b1; p2 = word.b2; p3 = word.b3; p4 = word.b4; p5 = word.b5; p6 = word.b6; p7 = word.b7 }) word.is clear in
    let c0 : get_or bs 0 0 < 128 = c.p0 in
    let c1 : get_or bs 1 0 < 128 = c.p1 in
    let c2 : get_or bs 2 0 < 128 = c.p2 in
    let c3 : get_or bs 3 0 < 128 = c.p3 in
    let c4 : get_or bs 4 0 < 128 = c.p4 in
    let c5 : get_or bs 5 0 < 128 = c.p5 in
    let c6 : get_or bs 6 0 < 128 = c.p6 in
    let c7 : get_or bs 7 0 < 128 = c.p7 in
    let l = tops_clear low (get_or bs 0 0 + 70) (get_or bs 1 0 + 70) (get_or bs 2 0 + 70) (get_or bs 3 0 + 70) (get_or bs 4 0 + 70) (get_or bs 5 0 + 70) (get_or bs 6 0 + 70) (get_or bs 7 0 + 70) (record { p0 = omega (arith, c0); p1 = omega (arith, c1); p2 = omega (arith, c2); p3 = omega (arith, c3); p4 = omega (arith, c4); p5 = omega (arith, c5); p6 = omega (arith, c6); p7 = omega (arith, c7) })
    (omega (arith, is_low, word.is, c0, c1, c2, c3, c4, c5, c6, c7)) low_clear in
    let h = tops_set high (get_or bs 0 0 + 80) (get_or bs 1 0 + 80) (get_or bs 2 0 + 80) (get_or bs 3 0 + 80) (get_or bs 4 0 + 80) (get_or bs 5 0 + 80) (get_or bs 6 0 + 80) (get_or bs 7 0 + 80) (record { p0 = omega (arith, c0); p1 = omega (arith, c1); p2 = omega (arith, c2); p3 = omega (arith, c3); p4 = omega (arith, c4); p5 = omega (arith, c5); p6 = omega (arith, c6); p7 = omega (arith, c7) })
    (omega (arith, is_high, word.is, c0, c1, c2, c3, c4, c5, c6, c7)) high_set in
    record { d0 = (omega (arith, h.p0), omega (arith, l.p0)); d1 = (omega (arith, h.p1), omega (arith, l.p1)); d2 = (omega (arith, h.p2), omega (arith, l.p2)); d3 = (omega (arith, h.p3), omega (arith, l.p3)); d4 = (omega (arith, h.p4), omega (arith, l.p4)); d5 = (omega (arith, h.p5), omega (arith, l.p5)); d6 = (omega (arith, h.p6), omega (arith, l.p6)); d7 = (omega (arith, h.p7), omega (arith, l.p7)) }
