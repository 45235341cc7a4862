-- `mesh::roots` meets its contract. The invariant: the smallest vertices of parts below v are counted.
use Rattle.surface_calls.specs.laws.Mesh.{AddedUp}
use Rattle.surface.specs.Parts.{root?}
use Rattle.table.specs.Rotation.{rotation}
use Prim.Native.Nat.{◌≤◌}
use Rattle.surface_calls.proofs.mesh.roots.Given as goal

abbrev pub invariant-loop-v : goal.invariant-loop-v
invariant-loop-v l = AddedUp (root? (rotation l.t)) l.v l.n × (l.v ≤ 512)
