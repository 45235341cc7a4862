-- `mesh::live_edges` meets its contract. The invariant: the live edges below e are counted.
use Rattle.surface_calls.specs.laws.Mesh.{AddedUp}
use Rattle.table.specs.Rotation.{live?}
use Prim.Native.Nat.{◌≤◌, ◌*◌}
use Rattle.surface_calls.proofs.mesh.live_edges.Given as goal

abbrev pub invariant-loop-e : goal.invariant-loop-e
invariant-loop-e l = AddedUp (λ i. live? l.t (2 * i)) l.e l.n × (l.e ≤ 1024)
