-- `forest::take_edge` meets its contract, a return for each case: an edge that is not live, in one tree, between two.
use Rattle.surface_parts.specs.laws.Linking.{taken_dead, taken_same, taken_up, taken_down}
use native.Mathlib.Omega.{arith}
use Rattle.surface_parts.proofs.forest.take_edge.Goals as goal

pub returns-then-t-e-eq0 : goal.returns-then-t-e-eq0
returns-then-t-e-eq0 c = taken_dead c.requires c.if-t-e-eq0.true

pub returns-then-x-y : goal.returns-then-x-y
returns-then-x-y c = taken_same c.requires c.if-t-e-eq0.false c.find-a.ensures c.find-b.ensures c.if-x-y.true

pub returns-then-x-y-2 : goal.returns-then-x-y-2
returns-then-x-y-2 c = taken_up c.requires c.if-t-e-eq0.false c.find-a.ensures c.find-b.ensures c.if-x-y-2.true

pub returns : goal.returns
returns c = taken_down c.requires c.if-t-e-eq0.false c.find-a.ensures c.find-b.ensures (omega arith)
