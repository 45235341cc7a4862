-- `tally::count_walks` meets its contract. The invariant: the walks that start below d are counted, and their corners marked.
use Rattle.surface_counts.specs.laws.Tallying.{Dartwise}
use Prim.Native.Nat.{◌≤◌}
use Rattle.surface_counts.proofs.tally.count_walks.Given as goal

abbrev pub invariant-loop-d : goal.invariant-loop-d
invariant-loop-d l = Dartwise l.t l.up l.d l.met l.fs × (l.d ≤ 2048)
