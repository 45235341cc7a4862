-- `mesh::live_vertices` meets its contract. The invariant: the live vertices below v are counted.
use Rattle.surface_calls.specs.laws.Mesh.{counted_none, counted_more}
use native.Mathlib.Omega.{arith}
use Rattle.surface_calls.proofs.mesh.live_vertices.Goals as goal

pub loop-v-init : goal.loop-v-init
loop-v-init c = (counted_none _, omega arith)

pub loop-v-preserved : goal.loop-v-preserved
loop-v-preserved c = (counted_more c.loop-v.invariant.0 c.one_vertex-k.ensures, omega arith)
