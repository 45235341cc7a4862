-- `vertex::all_led_darts` meets its contract. The loop keeps `Summed`, and the count is that of the blocks so far.
use Rattle.check_reads.proofs.laws.Tests.{Going, going_none, going_more, going_stops}
use Rattle.check_reads.proofs.laws.Vertices.{block_loose, block_read, block_passes, block_fails}
use Rattle.check_reads.specs.Reads.{vertex_block}
use Rattle.table.specs.laws.Vertices.{Summed, summed_none, summed_loose, summed_block, summed_all, block_broken}
use Rattle.table.specs.laws.Rotation.{case_yes, case_no}
use Rattle.table.specs.laws.Blocks.{vertex_blocks}
use native.Mathlib.Omega.{arith}
use mathlib.Core.Path.{◌≡◌}
use Prim.Native.Nat.{◌+◌, ◌*◌, ◌<◌}
use Rattle.check_table.proofs.vertex.all_led_darts.Goals as goal
use Rattle.check_table.proofs.vertex.all_led_darts.Goals.{then-not-is_loose+in_ok-n, else-not-is_loose}

pub loop-b-init : goal.loop-b-init
loop-b-init g c = (summed_none _, going_none)

pub returns-in_err-n : goal.returns-in_err-n
returns-in_err-n g c = let tight = case_no c.is_loose.ensures.0 c.if-not-is_loose.true in rw c.from_residual.ensures (
  block_broken _ _ (omega arith) c.led_in.ensures.0 c.in_err-n.was,
  going_stops c.loop-b.invariant.1 (block_read c.args.t.now c.requires c.loop-b.b (omega arith) tight c.is_loose.ensures.1 c.led_in.ensures.1)
      (block_fails c.args.t.now c.requires c.loop-b.b (omega arith) c.loop-b.invariant.0 c.led_in.ensures.0 c.in_err-n.was) 16 (omega arith),
)

pub loop-b-preserved : goal.loop-b-preserved
loop-b-preserved g c = let e : 32 * (c.loop-b.b + 1) ≡ 32 * c.loop-b.b + 32 = omega arith in
    let low : c.loop-b.b < vertex_blocks = omega arith in
    let passed : Summed c.args.t.now c.if-not-is_loose.n (32 * c.loop-b.b + 32) × Going g.C.Counter.shows (vertex_block c.args.t.now) (c.loop-b.b + 1) c.args.reads.now c.if-not-is_loose.reads
    = elim c.if-not-is_loose.branch [
      | then-not-is_loose+in_ok-n w ↦ rw (w.reads-is, w.n-is) (
        summed_block _ _ _ low w.led_in.ensures.0 w.in_ok-n.was,
        going_more c.loop-b.invariant.1
            (block_read c.args.t.now c.requires c.loop-b.b low (case_no c.is_loose.ensures.0 w.if-not-is_loose.true) c.is_loose.ensures.1 w.led_in.ensures.1)
            (block_passes c.args.t.now c.requires c.loop-b.b low w.led_in.ensures.0 w.in_ok-n.was),
      )
      | else-not-is_loose w ↦ rw (w.reads-is, w.n-is) (
          let yes = case_yes c.is_loose.ensures.0 w.if-not-is_loose.false in
          let block = block_loose c.args.t.now c.requires c.loop-b.b low yes c.is_loose.ensures.1 in
          (summed_loose _ c.requires _ _ low yes c.loop-b.invariant.0, going_more c.loop-b.invariant.1 block.1 block.0)
          )
    ] in
    (rw e passed.0, passed.1)

pub returns : goal.returns
returns g c = let end : c.loop-b.b ≡ 16 = omega arith in
    let all = rw end at c.loop-b.invariant in
    (summed_all _ _ _ c.requires all.0 (omega arith), all.1.count)
