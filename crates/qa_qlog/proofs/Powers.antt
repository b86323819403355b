-- Powers of two, and products.
use Rattle.std.proofs.Common.{◌≡◌, ℕ, ◌≤◌, ◌*◌, ◌^◌, ◌%◌, ◌∙◌, arith}
use Rattle.std.proofs.Math.Nat.{mul-le-mul, mod-eq_of_lt}
use Rattle.std.proofs.Math.Pow.{pow_mono}

pub power_small : (k : ℕ) → k ≤ 20 → 2 ^ k ≤ 2 ^ 20
power_small k few = pow_mono few

pub power_is : (k : ℕ) → k ≤ 20 → 1 * 2 ^ k % 340282366920938463463374607431768211456 ≡ 2 ^ k
power_is k few =
    let small = power_small k few in
    mod-eq_of_lt (omega (arith, small)) ∙ (omega arith)

pub product_small : (a b : ℕ) → a ≤ 2 ^ 64 → b ≤ 2 ^ 20 → a * b ≤ 2 ^ 64 * 2 ^ 20
product_small a b x y = mul-le-mul x y
