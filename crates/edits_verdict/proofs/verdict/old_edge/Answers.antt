-- `verdict::old_edge` meets its contract, an edge that is to be there: an end for each test.
use Rattle.edits.specs.Verdicts.{old_edge}
use Rattle.table.specs.laws.Check.{seen_good, seen_torn}
use borrow.Author.Tests.{lt-ltb, le-ltb, eq-eqb, ne_eqb}
use native.Mathlib.Omega.{arith}
use Rattle.edits_verdict.proofs.verdict.old_edge.Goals as goal

pub returns-then-not-is_good : goal.returns-then-not-is_good
unfolding old_edge
returns-then-not-is_good c = simp (seen_torn c.args.t.now c.is_good.ensures c.if-not-is_good.true)

pub returns-then-e-ge-EDGES : goal.returns-then-e-ge-EDGES
unfolding old_edge
returns-then-e-ge-EDGES c = simp ((seen_good c.args.t.now c.is_good.ensures c.if-not-is_good.false).0, le-ltb _ _ c.if-e-ge-EDGES.true)

pub bounds-t-e : goal.bounds-t-e
bounds-t-e c = let size = (seen_good c.args.t.now c.is_good.ensures c.if-not-is_good.false).1.size in omega arith

pub returns-then-t-e-eq0 : goal.returns-then-t-e-eq0
unfolding old_edge
returns-then-t-e-eq0 c = simp ((seen_good c.args.t.now c.is_good.ensures c.if-not-is_good.false).0, lt-ltb _ _ c.if-e-ge-EDGES.false, eq-eqb _ _ c.if-t-e-eq0.true)

pub returns : goal.returns
unfolding old_edge
returns c = simp ((seen_good c.args.t.now c.is_good.ensures c.if-not-is_good.false).0, lt-ltb _ _ c.if-e-ge-EDGES.false, ne_eqb _ _ c.if-t-e-eq0.false)
