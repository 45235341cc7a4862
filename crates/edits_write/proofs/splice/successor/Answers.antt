-- `splice::successor` meets its contract. The word of vertex v once dart x is out, where it was w. The loop keeps `Seeking`, and `darts - d` falls.
use Rattle.edits.proofs.laws.Unlink.{seeking_more, seeking_here, seeking_all}
use borrow.Author.Tests.{eq-eqb}
use native.Mathlib.Omega.{arith}
use Rattle.edits_write.proofs.splice.successor.Goals as goal

pub returns-then-t-d : goal.returns-then-t-d
returns-then-t-d c = simp (eq-eqb _ _ c.if-w-x.false) (seeking_here _ _ _ _ c.loop-d.invariant (omega arith) c.if-t-d.true)

pub loop-d-preserved : goal.loop-d-preserved
loop-d-preserved c = seeking_more _ _ _ _ c.loop-d.invariant (omega arith) c.if-t-d.false

pub returns : goal.returns
returns c = simp (eq-eqb _ _ c.if-w-x.false) (seeking_all _ _ _ _ c.loop-d.invariant (omega arith))
