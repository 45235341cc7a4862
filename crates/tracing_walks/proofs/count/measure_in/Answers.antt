-- `count::measure_in` meets its contract. The invariant: the walks that start below d are counted, and their corners marked.
use Rattle.tracing_walks.specs.laws.Size.{seen_range, looked_low, counting_more, counting_skip}
use mathlib.Core.Path.{◌≡◌}
use native.Mathlib.Omega.{arith}
use Prim.Native.Nat.{◌+◌, ◌*◌}
use Rattle.tracing_walks.proofs.count.measure_in.Goals as goal
use Rattle.tracing_walks.proofs.count.measure_in.Goals.{in-Some, in_default}

pub look-requires : goal.look-requires
look-requires c = seen_range c.loop-d.invariant.seen (omega arith)

pub overflow_add-words : goal.overflow_add-words
overflow_add-words c = let low = looked_low c.in-Some.ensures in omega arith

pub overflow_add-words-in-Some : goal.overflow_add-words-in-Some
overflow_add-words-in-Some c = let low = looked_low c.in-Some.ensures in omega arith

pub loop-d-preserved : goal.loop-d-preserved
loop-d-preserved c = elim c.match-look.branch [
  | in-Some w ↦ rw (w.walks-is, w.words-is) (counting_more c.loop-d.invariant (omega arith) w.in-Some.ensures)
  | in_default w ↦ rw (w.walks-is, w.words-is) (counting_skip c.loop-d.invariant (omega arith) c.look.ensures w.in_default.not-Some)
]

pub returns : goal.returns
returns c = let end : c.loop-d.d ≡ 64 * c.args.b + 64 = omega arith in rw end at c.loop-d.invariant
