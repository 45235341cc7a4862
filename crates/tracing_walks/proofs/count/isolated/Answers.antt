-- `count::isolated` meets its contract. The invariant: n of the vertices below v are isolated.
use Rattle.tracing_walks.specs.laws.Size.{lone_none, lone_more, lone_skip}
use mathlib.Core.Path.{◌≡◌}
use native.Mathlib.Omega.{arith}
use Rattle.tracing_walks.proofs.count.isolated.Goals as goal
use Rattle.tracing_walks.proofs.count.isolated.Goals.{then-t-v, else-t-v}

pub loop-v-init : goal.loop-v-init
loop-v-init c = lone_none c.requires

pub loop-v-preserved : goal.loop-v-preserved
loop-v-preserved c = elim c.if-t-v.branch [
  | then-t-v w ↦ rw w.n-is (lone_more c.loop-v.invariant c.loop-v-test.true w.if-t-v.true)
  | else-t-v w ↦ rw w.n-is (lone_skip c.loop-v.invariant c.loop-v-test.true w.if-t-v.false)
]

pub returns : goal.returns
returns c = let end : c.loop-v.v ≡ 512 = omega arith in rw end at c.loop-v.invariant
