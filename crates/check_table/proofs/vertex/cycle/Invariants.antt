-- `vertex::cycle` meets its contract. The loop keeps `Round`, and a word is counted for each step.
use Rattle.table.specs.Reading.{Adds}
use Rattle.table.specs.laws.Cycle.{Round}
use Rattle.table.specs.Layout.{darts}
use Prim.Native.Nat.{◌-◌}
use Rattle.check_table.proofs.vertex.cycle.Given as goal

abbrev pub invariant-loop-d : goal.invariant-loop-d
invariant-loop-d g l = Round l.t l.w l.n l.d × Adds g.C.Counter.shows l.fn.reads l.reads l.n

abbrev pub decreases-loop-d : goal.decreases-loop-d
decreases-loop-d g l = darts - l.n
