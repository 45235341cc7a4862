-- `tally::count_edges` meets its contract. The invariant: the edges below e are counted.
use Rattle.surface_counts.specs.laws.Tallying.{Edging}
use Prim.Native.Nat.{◌≤◌}
use Rattle.surface_counts.proofs.tally.count_edges.Given as goal

abbrev pub invariant-loop-e : goal.invariant-loop-e
invariant-loop-e l = Edging l.t l.up l.turn l.e l.es l.odd × (l.e ≤ 1024)
