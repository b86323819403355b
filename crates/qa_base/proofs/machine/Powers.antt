-- Powers of two, and products.
use Rattle.std.proofs.Common.{◌≡◌, ℕ, ◌≤◌, ◌*◌, ◌^◌, ◌%◌, ◌∙◌, arith}
use Rattle.std.proofs.Math.Nat.{mul-le-mul, mod-eq_of_lt}
use Rattle.std.proofs.Math.Pow.{pow_mono}
use Rattle.qa_base.specs.values.Limits.{max_time}

pub power_small : (k : ℕ) → k ≤ 40 → 2 ^ k ≤ 2 ^ 40
power_small k few = pow_mono few

pub power_is : (k : ℕ) → k ≤ 40 → 1 * 2 ^ k % 340282366920938463463374607431768211456 ≡ 2 ^ k
power_is k few =
    let small = power_small k few in
    mod-eq_of_lt (omega (arith, small)) ∙ (omega arith)

pub product_small : (a b : ℕ) → a ≤ 6 * max_time → b ≤ 2 ^ 40 → a * b ≤ 6 * max_time * 2 ^ 40
product_small a b x y = mul-le-mul x y
