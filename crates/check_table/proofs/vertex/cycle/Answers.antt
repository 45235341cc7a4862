-- `vertex::cycle` meets its contract. The loop keeps `Round`, and a word is counted for each step.
use Rattle.table.specs.laws.Cycle.{round_none, round_more, round_short, round_all, round_lower}
use Rattle.check_reads.proofs.laws.Vertices.{cycle_reads}
use Rattle.table.specs.laws.Reading.{adds_more}
use native.Mathlib.Omega.{arith}
use Rattle.check_table.proofs.vertex.cycle.Goals as goal

pub loop-d-init : goal.loop-d-init
loop-d-init g c = (rw c.read-d.ensures.0 (round_none c.args.t.now c.requires.0 _ c.requires.1), c.read-d.ensures.1)

pub returns-then-d-w : goal.returns-then-d-w
returns-then-d-w g c = let few = cycle_reads _ c.requires.0 _ c.requires.1 _ _ c.loop-d.invariant.0 (omega arith) in
    (round_lower _ c.requires.0 _ c.requires.1 _ _ c.loop-d.invariant.0 c.if-d-w.true, rw few c.loop-d.invariant.1)

pub overflow_add-n : goal.overflow_add-n
overflow_add-n g c = let short = round_short _ c.requires.0 _ c.requires.1 _ _ c.loop-d.invariant.0 c.loop-d-test.true in
    omega arith

pub loop-d-smaller : goal.loop-d-smaller
loop-d-smaller g c = let short = round_short _ c.requires.0 _ c.requires.1 _ _ c.loop-d.invariant.0 c.loop-d-test.true in
    omega arith

pub loop-d-preserved : goal.loop-d-preserved
loop-d-preserved g c = (
  rw c.read-d-in-loop-d.ensures.0 (round_more c.args.t.now c.requires.0 _ c.requires.1 _ _ c.loop-d.invariant.0 c.loop-d-test.true c.if-d-w.false),
  adds_more c.loop-d.invariant.1 c.read-d-in-loop-d.ensures.1,
)

pub returns : goal.returns
returns g c = let few = cycle_reads _ c.requires.0 _ c.requires.1 _ _ c.loop-d.invariant.0 (omega arith) in
    (round_all _ c.requires.0 _ c.requires.1 _ _ c.loop-d.invariant.0 c.loop-d-test.false, rw few c.loop-d.invariant.1)
