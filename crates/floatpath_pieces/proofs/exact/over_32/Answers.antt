-- `exact::over_32` meets its contract: the number is small enough for a cast without loss, and the division is exact.
use Rattle.floatpath_pieces.specs.laws.Exact.{cast_exact, over32_divided}
use mir.Facts.{to_z-of_z}
use mir.Syntax.{w32}
use native.Mathlib.Omega.{arith}
use Rattle.floatpath_pieces.proofs.exact.over_32.Goals as goal

pub int_to_float-result : goal.int_to_float-result
int_to_float-result c = rw (to_z-of_z {w = w32} c.ranges.z) (cast_exact c.args.z (omega arith))

pub returns : goal.returns
returns c = rw (to_z-of_z {w = w32} c.ranges.z) (over32_divided c.args.z (omega arith))
