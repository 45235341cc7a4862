-- `verdict::new_vertex` meets its contract, a vertex to add: an end for each test.
use Rattle.edits.specs.Verdicts.{new_vertex}
use Rattle.table.specs.laws.Check.{seen_good, seen_torn}
use borrow.Author.Tests.{lt-ltb, le-ltb, eq-eqb, ne_eqb}
use native.Mathlib.Omega.{arith}
use Rattle.edits_verdict.proofs.verdict.new_vertex.Goals as goal

pub returns-then-not-is_good : goal.returns-then-not-is_good
unfolding new_vertex
returns-then-not-is_good c = simp (seen_torn c.args.t.now c.is_good.ensures c.if-not-is_good.true)

pub returns-then-v-ge-VERTICES : goal.returns-then-v-ge-VERTICES
unfolding new_vertex
returns-then-v-ge-VERTICES c = simp ((seen_good c.args.t.now c.is_good.ensures c.if-not-is_good.false).0, le-ltb _ _ c.if-v-ge-VERTICES.true)

pub bounds-t-v : goal.bounds-t-v
bounds-t-v c = let size = (seen_good c.args.t.now c.is_good.ensures c.if-not-is_good.false).1.size in omega arith

pub returns-then-t-v : goal.returns-then-t-v
unfolding new_vertex
returns-then-t-v c = simp ((seen_good c.args.t.now c.is_good.ensures c.if-not-is_good.false).0, lt-ltb _ _ c.if-v-ge-VERTICES.false, ne_eqb _ _ c.if-t-v.true)

pub returns : goal.returns
unfolding new_vertex
returns c = simp ((seen_good c.args.t.now c.is_good.ensures c.if-not-is_good.false).0, lt-ltb _ _ c.if-v-ge-VERTICES.false, eq-eqb _ _ c.if-t-v.false)
