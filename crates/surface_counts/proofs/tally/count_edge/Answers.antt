-- `tally::count_edge` meets its contract, a return for each case: an edge that is not live, one that agrees with the marks, a twisted one.
use Rattle.surface_counts.specs.laws.Tallying.{edge_near, edge_none, edge_plain, edge_twisted}
use native.Mathlib.Omega.{arith}
use Rattle.surface_counts.proofs.tally.count_edge.Goals as goal

pub returns-then-w-eq0 : goal.returns-then-w-eq0
returns-then-w-eq0 c = edge_none c.requires.0 c.requires.1 c.if-w-eq0.true

pub bounds-es-k : goal.bounds-es-k
bounds-es-k c = (edge_near c.requires.0 c.requires.1 c.if-w-eq0.false).key

pub overflow_add-es : goal.overflow_add-es
overflow_add-es c = let n = edge_near c.requires.0 c.requires.1 c.if-w-eq0.false in omega arith

pub bounds-es-k-2 : goal.bounds-es-k-2
bounds-es-k-2 c = (edge_near c.requires.0 c.requires.1 c.if-w-eq0.false).key

pub returns-then-w-turn-eq0 : goal.returns-then-w-turn-eq0
returns-then-w-turn-eq0 c = edge_plain c.requires.0 c.requires.1 c.if-w-eq0.false c.if-w-turn-eq0.true

pub overflow_add-odd : goal.overflow_add-odd
overflow_add-odd c = let n = edge_near c.requires.0 c.requires.1 c.if-w-eq0.false in omega arith

pub returns : goal.returns
returns c = edge_twisted c.requires.0 c.requires.1 c.if-w-eq0.false c.if-w-turn-eq0.false
