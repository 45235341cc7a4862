-- `ribbon::write_step` meets its contract. The invariant: the letters of the first j crossings are written.
use Rattle.weave_letters.specs.laws.Crossing.{crossing_none, crossing_more, crossing_within, crossing_all}
use Rattle.weave_letters.proofs.ribbon.write_step.Goals as goal

pub loop-j-init : goal.loop-j-init
loop-j-init c = crossing_none c.requires c.crossings-n.ensures

pub bounds-out-start : goal.bounds-out-start
bounds-out-start c = crossing_within c.loop-j.invariant c.loop-j-test.true

pub loop-j-preserved : goal.loop-j-preserved
loop-j-preserved c = crossing_more c.loop-j.invariant c.loop-j-test.true c.letter.ensures

pub shape_of-out : goal.shape_of-out
shape_of-out c = c.loop-j.invariant.front.size

pub returns : goal.returns
returns c = crossing_all c.loop-j.invariant c.loop-j-test.false
