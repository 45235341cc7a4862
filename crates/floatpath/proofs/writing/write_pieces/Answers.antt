-- `writing::write_pieces` meets its contract. The invariant: the pieces of the n steps so far stand at the front of the slices.
use Rattle.std.proofs.Common.{◌∙◌, ap, arith}
use Rattle.tracing_walks.specs.laws.Along.{along_low}
use Rattle.tracing_walks.specs.laws.Steps.{steps_left}
use Rattle.floatpath.specs.laws.Laying.{laying_none, laying_lent, laying_near, laying_room, laying_more, laying_all, laying_forms, laying_coords}
use Rattle.floatpath.proofs.writing.write_pieces.Goals as goal

pub loop-at-init : goal.loop-at-init
loop-at-init c = laying_none c.requires (ap steps_left c.into_iter-at-iterator.ensures.into_iter_gives ∙ c.walk-at-items.ensures)

pub piece_on-p-requires : goal.piece_on-p-requires
piece_on-p-requires c = let next = c.in-Some.ensures.steps in (laying_lent c.loop-at.invariant next, laying_near c.loop-at.invariant next)

pub write_piece-requires : goal.write_piece-requires
write_piece-requires c = laying_room c.loop-at.invariant c.in-Some.ensures.steps

pub overflow_add-n : goal.overflow_add-n
overflow_add-n c = let low = along_low c.loop-at.invariant.along c.in-Some.ensures.steps in omega arith

pub loop-at-preserved : goal.loop-at-preserved
loop-at-preserved c = laying_more c.loop-at.invariant c.in-Some.ensures.steps c.piece_on-p.ensures c.write_piece.ensures

pub shape_of-forms : goal.shape_of-forms
shape_of-forms c = laying_forms c.loop-at.invariant

pub shape_of-coords : goal.shape_of-coords
shape_of-coords c = laying_coords c.loop-at.invariant

pub returns : goal.returns
returns c = laying_all c.loop-at.invariant c.in-None.ensures.steps.0
