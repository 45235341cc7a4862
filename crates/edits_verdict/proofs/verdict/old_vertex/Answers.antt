-- `verdict::old_vertex` meets its contract, a vertex that is to be there: an end for each test.
use Rattle.edits.specs.Verdicts.{old_vertex}
use Rattle.table.specs.laws.Check.{seen_good, seen_torn}
use borrow.Author.Tests.{lt-ltb, le-ltb, eq-eqb, ne_eqb}
use native.Mathlib.Omega.{arith}
use Rattle.edits_verdict.proofs.verdict.old_vertex.Goals as goal

pub returns-then-not-is_good : goal.returns-then-not-is_good
unfolding old_vertex
returns-then-not-is_good c = simp (seen_torn c.args.t.now c.is_good.ensures c.if-not-is_good.true)

pub returns-then-v-ge-VERTICES : goal.returns-then-v-ge-VERTICES
unfolding old_vertex
returns-then-v-ge-VERTICES c = simp ((seen_good c.args.t.now c.is_good.ensures c.if-not-is_good.false).0, le-ltb _ _ c.if-v-ge-VERTICES.true)

pub bounds-t-v : goal.bounds-t-v
bounds-t-v c = let size = (seen_good c.args.t.now c.is_good.ensures c.if-not-is_good.false).1.size in omega arith

pub returns-then-t-v : goal.returns-then-t-v
unfolding old_vertex
returns-then-t-v c = simp ((seen_good c.args.t.now c.is_good.ensures c.if-not-is_good.false).0, lt-ltb _ _ c.if-v-ge-VERTICES.false, eq-eqb _ _ c.if-t-v.true)

pub returns : goal.returns
unfolding old_vertex
returns c = simp ((seen_good c.args.t.now c.is_good.ensures c.if-not-is_good.false).0, lt-ltb _ _ c.if-v-ge-VERTICES.false, ne_eqb _ _ c.if-t-v.false)
