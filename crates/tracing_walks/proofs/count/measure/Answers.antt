-- `count::measure` meets its contract. The invariant: the walks that start below block b are counted, and their corners marked.
use Rattle.tracing_walks.specs.laws.Size.{counting_none, counting_dead, measured}
use Rattle.table.specs.laws.Rotation.{case_yes}
use mathlib.Core.Path.{◌≡◌}
use native.Mathlib.Omega.{arith}
use Prim.Native.Nat.{◌+◌, ◌*◌}
use Rattle.tracing_walks.proofs.count.measure.Goals as goal
use Rattle.tracing_walks.proofs.count.measure.Goals.{then-not-is_dead, else-not-is_dead}

pub loop-b-init : goal.loop-b-init
loop-b-init c = counting_none c.requires

pub is_dead-requires : goal.is_dead-requires
is_dead-requires c = (c.requires.size, omega arith)

pub measure_in-size-requires : goal.measure_in-size-requires
measure_in-size-requires c = (omega arith, c.loop-b.invariant)

pub loop-b-preserved : goal.loop-b-preserved
loop-b-preserved c = let e : 64 * (c.loop-b.b + 1) ≡ 64 * c.loop-b.b + 64 = omega arith in
    rw e (elim c.if-not-is_dead.branch [
      | then-not-is_dead w ↦ rw (w.size-is, w.met-is) w.measure_in-size.ensures
      | else-not-is_dead w ↦ rw (w.size-is, w.met-is) (counting_dead c.loop-b.b (omega arith) (case_yes c.is_dead.ensures w.if-not-is_dead.false) c.loop-b.invariant)
    ])

pub returns : goal.returns
returns c = let end : 64 * c.loop-b.b ≡ 2048 = omega arith in
    measured (rw end at c.loop-b.invariant) c.isolated-alone.ensures
