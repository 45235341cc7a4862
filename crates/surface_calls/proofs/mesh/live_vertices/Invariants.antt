-- `mesh::live_vertices` meets its contract. The invariant: the live vertices below v are counted.
use Rattle.surface_calls.specs.laws.Mesh.{AddedUp}
use Rattle.table.specs.Rotation.{there?}
use Prim.Native.Nat.{◌≤◌}
use Rattle.surface_calls.proofs.mesh.live_vertices.Given as goal

abbrev pub invariant-loop-v : goal.invariant-loop-v
invariant-loop-v l = AddedUp (there? l.t) l.v l.n × (l.v ≤ 512)
