-- Powers of two.
use Rattle.std.proofs.Common.{◌≡◌, ℕ, ◌≤◌, ◌*◌, ◌^◌, ◌%◌, ◌∙◌, arith}
use Rattle.std.proofs.Math.Nat.{mod-eq_of_lt}
use Rattle.std.proofs.Math.Pow.{pow_mono}

pub power_is : (k : ℕ) → k ≤ 20 → 1 * 2 ^ k % 18446744073709551616 ≡ 2 ^ k
power_is k few =
    let small : 2 ^ k ≤ 2 ^ 20 = pow_mono few in
    mod-eq_of_lt (omega (arith, small)) ∙ (omega arith)
