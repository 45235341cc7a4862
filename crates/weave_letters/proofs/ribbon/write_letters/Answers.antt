-- `ribbon::write_letters` meets its contract. The invariant: the letters of the steps so far stand at the front of the slice.
use Rattle.std.proofs.Common.{◌∙◌, ap}
use Rattle.tracing_walks.specs.laws.Along.{along_stands}
use Rattle.tracing_walks.specs.laws.Steps.{steps_left}
use Rattle.weave_letters.specs.laws.Passing.{lettering_none, lettering_room, lettering_more, lettering_all}
use Rattle.weave_letters.proofs.ribbon.write_letters.Goals as goal

pub loop-at-init : goal.loop-at-init
loop-at-init c = lettering_none c.requires.0 c.requires.1 (ap steps_left c.into_iter-at-iterator.ensures.into_iter_gives ∙ c.walk-at-items.ensures)

pub edge_word-w-requires : goal.edge_word-w-requires
edge_word-w-requires c = along_stands c.loop-at.invariant.along c.in-Some.ensures.steps

pub write_step-end-requires : goal.write_step-end-requires
write_step-end-requires c = lettering_room c.loop-at.invariant c.in-Some.ensures.steps c.edge_word-w.ensures

pub loop-at-preserved : goal.loop-at-preserved
loop-at-preserved c = lettering_more c.loop-at.invariant c.in-Some.ensures.steps c.edge_word-w.ensures c.write_step-end.ensures

pub shape_of-out : goal.shape_of-out
shape_of-out c = c.loop-at.invariant.front.size

pub returns : goal.returns
returns c = lettering_all c.loop-at.invariant c.in-None.ensures.steps.0
