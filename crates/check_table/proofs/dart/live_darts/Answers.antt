-- `dart::live_darts` meets its contract. The loop keeps `RuledBelow`, and the count is that of the blocks so far.
use Rattle.check_reads.proofs.laws.Tests.{told_is, Going, going_none, going_more, going_stops}
use Rattle.check_reads.proofs.laws.Darts.{idle_case, block_idle, block_read, block_passes, block_fails}
use Rattle.check_reads.specs.Reads.{edge_block}
use Rattle.table.specs.laws.Darts.{RuledBelow, passed_none, passed_idle, passed_block, block_broken}
use Rattle.table.specs.laws.Rotation.{case_yes}
use native.Mathlib.Omega.{arith}
use mathlib.Core.Path.{◌≡◌, sym}
use Prim.Native.Nat.{◌+◌, ◌*◌}
use Rattle.check_table.proofs.dart.live_darts.Goals as goal
use Rattle.check_table.proofs.dart.live_darts.Goals.{then-not-is_idle+in_ok-n, else-not-is_idle}

pub loop-b-init : goal.loop-b-init
loop-b-init g c = (passed_none _, going_none)

pub returns-in_err-n : goal.returns-in_err-n
returns-in_err-n g c = let idle = told_is c.if-not-is_idle.true c.is_idle.ensures in rw c.from_residual.ensures (
  block_broken _ _ (omega arith) c.live_in.ensures.0 c.in_err-n.was,
  going_stops c.loop-b.invariant.1 (block_read c.args.t.now c.loop-b.b idle c.live_in.ensures.1)
      (block_fails c.args.t.now c.loop-b.b c.loop-b.invariant.0 c.live_in.ensures.0 c.in_err-n.was) 32 (omega arith),
)

pub loop-b-preserved : goal.loop-b-preserved
loop-b-preserved g c = let e : 64 * (c.loop-b.b + 1) ≡ 64 * c.loop-b.b + 64 = omega arith in
    let passed : RuledBelow c.args.t.now c.if-not-is_idle.n (64 * c.loop-b.b + 64) × Going g.C.Counter.shows (edge_block c.args.t.now) (c.loop-b.b + 1) c.args.reads.now c.if-not-is_idle.reads
    = elim c.if-not-is_idle.branch [
      | then-not-is_idle+in_ok-n w ↦ rw (w.reads-is, w.n-is) (
        passed_block _ _ _ (omega arith) w.live_in.ensures.0 w.in_ok-n.was,
        going_more c.loop-b.invariant.1 (block_read c.args.t.now c.loop-b.b (told_is w.if-not-is_idle.true c.is_idle.ensures) w.live_in.ensures.1)
            (block_passes c.args.t.now c.loop-b.b w.live_in.ensures.0 w.in_ok-n.was),
      )
      | else-not-is_idle w ↦ rw (w.reads-is, w.n-is) (let told = told_is w.if-not-is_idle.false c.is_idle.ensures in let block = block_idle c.args.t.now c.loop-b.b told in (
        passed_idle _ _ _ (omega arith) (case_yes (idle_case c.args.t.now c.loop-b.b) (sym told.verdict)) c.loop-b.invariant.0,
        going_more c.loop-b.invariant.1 block.1 block.0,
      ))
    ] in
    (rw e passed.0, passed.1)
