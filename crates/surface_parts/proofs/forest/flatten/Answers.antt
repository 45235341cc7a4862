-- `forest::flatten` meets its contract. The invariant: the vertices below v point to their roots.
use Rattle.surface_parts.specs.laws.Forest.{flattening_more}
use native.Mathlib.Omega.{arith}
use Rattle.surface_parts.proofs.forest.flatten.Goals as goal

pub loop-v-preserved : goal.loop-v-preserved
loop-v-preserved c = rw (c.lift.ensures.0, c.lift.ensures.1) (flattening_more c.loop-v.invariant (omega arith))
