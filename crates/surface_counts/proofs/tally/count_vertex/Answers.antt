-- `tally::count_vertex` meets its contract, a return for each case: a vertex that is not live, one with darts, an isolated one.
use Rattle.surface_counts.specs.laws.Tallying.{vertex_low, lone_low, vertex_none, vertex_joined, vertex_alone}
use native.Mathlib.Omega.{arith}
use Rattle.surface_counts.proofs.tally.count_vertex.Goals as goal

pub returns-then-w : goal.returns-then-w
returns-then-w c = vertex_none c.requires.0 c.requires.1 c.if-w.true

pub overflow_add-vs : goal.overflow_add-vs
overflow_add-vs c = let n = vertex_low c.requires.0 c.requires.1 in omega arith

pub returns-then-w-2 : goal.returns-then-w-2
returns-then-w-2 c = vertex_joined c.requires.0 c.requires.1 c.if-w.false c.if-w-2.true

pub overflow_add-fs : goal.overflow_add-fs
overflow_add-fs c = let n = lone_low c.requires.0 c.requires.1 in omega arith

pub returns : goal.returns
returns c = vertex_alone c.requires.0 c.requires.1 c.if-w.false c.if-w-2.false
