-- `tally::count_walks` meets its contract. The invariant: the walks that start below d are counted, and their corners marked.
use Rattle.surface_counts.specs.laws.Tallying.{dartwise_none}
use native.Mathlib.Omega.{arith}
use Rattle.surface_counts.proofs.tally.count_walks.Goals as goal

pub loop-d-init : goal.loop-d-init
loop-d-init c = (rw c.requires.1 (dartwise_none c.requires.0), omega arith)
