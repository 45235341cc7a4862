-- `tally::count_vertices` meets its contract. The invariant: the vertices below v are counted.
use Rattle.surface_counts.specs.laws.Tallying.{Vertexing}
use Prim.Native.Nat.{◌≤◌}
use Rattle.surface_counts.proofs.tally.count_vertices.Given as goal

abbrev pub invariant-loop-v : goal.invariant-loop-v
invariant-loop-v l = Vertexing l.t l.up l.v l.vs l.fs × (l.v ≤ 512)
