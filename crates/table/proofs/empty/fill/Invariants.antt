-- `empty::fill` meets its contract. The invariant: w stands up to index i; `to - i` falls.
use Rattle.table.specs.laws.Empty.{Filled}
use lib.ListN.{length}
use Prim.Native.Nat.{◌-◌, ◌≤◌}
use Rattle.table.proofs.empty.fill.Given as goal

abbrev pub invariant-loop-i : goal.invariant-loop-i
invariant-loop-i l = Filled l.initial.t l.from l.i l.w l.t × (l.from ≤ l.i) × (l.i ≤ l.to) × (l.to ≤ length l.initial.t)

abbrev pub decreases-loop-i : goal.decreases-loop-i
decreases-loop-i l = l.to - l.i
