-- The theorems of this crate, document 01, "so nothing is rounded". Each is proved by the law of its name.
use Rattle.std.specs.Prelude.{◌^◌, ◌<◌, ℤ, nat_abs, pos, ◌≡◌, false}
use Rattle.std.specs.Float.{fin}
use Rattle.floatpath_pieces.specs.Exact.{over32, Over32}
use Rattle.floatpath_pieces.specs.laws.Exact as exact

-- "so nothing is rounded"
pub over32_exact : (z : ℤ) → nat_abs z < 2 ^ 24 → Over32 z (over32 z)
over32_exact = exact.over32_exact

-- "zero is positive zero"
pub over32_zero : over32 (pos 0) ≡ fin false 0 (pos 0)
over32_zero = exact.over32_zero
