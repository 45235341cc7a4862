-- `vertex::led_in` meets its contract. The loop keeps `Summed`, and the count is that of the vertices so far.
use Rattle.check_reads.proofs.laws.Tests.{along_none, along_more, along_stops}
use Rattle.check_reads.proofs.laws.Vertices.{told_kept, told_broken}
use Rattle.table.specs.laws.Vertices.{summed_more, summed_few, summed_broken}
use Rattle.table.specs.laws.Counting.{counts_broken, counts_some}
use native.Mathlib.Omega.{arith}
use mathlib.Core.Path.{refl}
use Rattle.check_table.proofs.vertex.led_in.Goals as goal

pub loop-v-init : goal.loop-v-init
loop-v-init g c = (c.requires.2, along_none)

pub returns-in_err-led : goal.returns-in_err-led
returns-in_err-led g c = rw c.from_residual.ensures (
  summed_broken _ _ _ (omega arith) (counts_broken c.led_darts.ensures.0 c.in_err-led.was),
  along_stops c.loop-v.invariant.1 (told_broken _ c.requires.0 _ (omega arith) c.led_darts.ensures.0 c.led_darts.ensures.1 c.in_err-led.was) 32 (omega arith) refl,
)

pub overflow_add-led : goal.overflow_add-led
overflow_add-led g c = let k = counts_some _ c.led_darts.ensures.0 c.in_ok-led.was in
    let few = summed_few _ _ _ (summed_more _ _ _ _ c.loop-v.invariant.0 (omega arith) k.1 k.0) in
    omega arith

pub loop-v-preserved : goal.loop-v-preserved
loop-v-preserved g c = let k = counts_some _ c.led_darts.ensures.0 c.in_ok-led.was in (
  summed_more _ _ _ _ c.loop-v.invariant.0 (omega arith) k.1 k.0,
  along_more c.loop-v.invariant.1 (told_kept _ c.requires.0 _ (omega arith) c.led_darts.ensures.0 c.led_darts.ensures.1 c.in_ok-led.was) refl,
)
