-- `range::is_far_step` meets its contract: the points of the two ends and the lift, tested one after the other.
use Rattle.floatpath.specs.laws.Range.{first_there, second_there, lift_there, step_first, step_second, step_last}
use Rattle.floatpath.proofs.range.is_far_step.Goals as goal

pub is_far-requires : goal.is_far-requires
is_far-requires c = first_there c.requires c.places_of-p.ensures

pub returns-then-is_far : goal.returns-then-is_far
returns-then-is_far c = step_first c.requires c.places_of-p.ensures c.is_far.ensures c.if-is_far.true

pub is_far-requires-2 : goal.is_far-requires-2
is_far-requires-2 c = second_there c.requires c.places_of-p.ensures

pub returns-then-is_far-2 : goal.returns-then-is_far-2
returns-then-is_far-2 c = step_second c.requires c.places_of-p.ensures c.is_far.ensures c.if-is_far.false c.is_far-2.ensures c.if-is_far-2.true

pub is_far-requires-3 : goal.is_far-requires-3
is_far-requires-3 c = lift_there c.requires c.places_of-p.ensures

pub returns : goal.returns
returns c = step_last c.requires c.places_of-p.ensures c.is_far.ensures c.if-is_far.false c.is_far-2.ensures c.if-is_far-2.false c.is_far-3.ensures
