-- `writing::write_pieces` meets its contract. The invariant: the pieces of the steps so far stand at the front of the slices.
use Rattle.std.proofs.Common.{◌∙◌, ap}
use Rattle.tracing_walks.specs.laws.Steps.{steps_left}
use Rattle.wholepath_writing.specs.laws.Laying.{laying_none, laying_step, laying_more, laying_all, laying_sizes}
use Rattle.wholepath_writing.proofs.writing.write_pieces.Goals as goal

pub loop-at-init : goal.loop-at-init
loop-at-init c = laying_none c.requires (ap steps_left c.into_iter-at-iterator.ensures.into_iter_gives ∙ c.walk-at-items.ensures)

pub write_step-n-requires : goal.write_step-n-requires
write_step-n-requires c = laying_step c.loop-at.invariant c.in-Some.ensures.steps

pub loop-at-preserved : goal.loop-at-preserved
loop-at-preserved c = laying_more c.loop-at.invariant c.in-Some.ensures.steps c.write_step-n.ensures

pub shape_of-forms : goal.shape_of-forms
shape_of-forms c = (laying_sizes c.loop-at.invariant).forms

pub shape_of-coords : goal.shape_of-coords
shape_of-coords c = (laying_sizes c.loop-at.invariant).coords

pub shape_of-remainders : goal.shape_of-remainders
shape_of-remainders c = (laying_sizes c.loop-at.invariant).rests

pub returns : goal.returns
returns c = laying_all c.loop-at.invariant c.in-None.ensures.steps.0
