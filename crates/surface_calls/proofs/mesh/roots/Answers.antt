-- `mesh::roots` meets its contract. The invariant: the smallest vertices of parts below v are counted.
use Rattle.surface_calls.specs.laws.Mesh.{counted_none, counted_more}
use native.Mathlib.Omega.{arith}
use Rattle.surface_calls.proofs.mesh.roots.Goals as goal

pub loop-v-init : goal.loop-v-init
loop-v-init c = (counted_none _, omega arith)

pub loop-v-preserved : goal.loop-v-preserved
loop-v-preserved c = (counted_more c.loop-v.invariant.0 c.one_root-k.ensures, omega arith)
