-- `mesh::live_edges` meets its contract. The invariant: the live edges below e are counted.
use Rattle.surface_calls.specs.laws.Mesh.{counted_none, counted_more}
use native.Mathlib.Omega.{arith}
use Rattle.surface_calls.proofs.mesh.live_edges.Goals as goal

pub loop-e-init : goal.loop-e-init
loop-e-init c = (counted_none _, omega arith)

pub loop-e-preserved : goal.loop-e-preserved
loop-e-preserved c = (counted_more c.loop-e.invariant.0 c.one_edge-k.ensures, omega arith)
