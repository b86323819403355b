-- Limits in either unit.
use Rattle.std.proofs.Common.{ℕ, ◌≤◌, ◌*◌, arith}
use Rattle.qa_base.specs.declared.space.TimeUnit.{TimeUnit}
use Rattle.qa_base.specs.declared.space.TimeUnit.TheVariants.{Microseconds, Nanoseconds}
use Rattle.qa_base.specs.values.Settings.{in_unit}

-- what is within a limit in some unit is within it in the smallest
pub unit_high : (u : TimeUnit) (n hi : ℕ) → n ≤ in_unit u hi → n ≤ 1000 * hi
unit_high Microseconds n hi high = omega (arith, high)
unit_high Nanoseconds n hi high = high
