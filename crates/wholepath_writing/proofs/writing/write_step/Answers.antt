-- `writing::write_step` meets its contract. The invariant: the first i pieces of the step are written.
use Rattle.wholepath_writing.specs.laws.Laying.{stepping_none, stepping_piece, stepping_room, stepping_more, stepping_all, stepping_sizes}
use Rattle.wholepath_writing.proofs.writing.write_step.Goals as goal

pub loop-i-init : goal.loop-i-init
loop-i-init c = stepping_none c.requires c.edge_word-w.ensures c.spots-n.ensures c.places_of-at.ensures

pub piece_on-p-requires : goal.piece_on-p-requires
piece_on-p-requires c = stepping_piece c.loop-i.invariant c.loop-i-test.true

pub write_piece-requires : goal.write_piece-requires
write_piece-requires c = stepping_room c.loop-i.invariant c.loop-i-test.true

pub loop-i-preserved : goal.loop-i-preserved
loop-i-preserved c = stepping_more c.loop-i.invariant c.loop-i-test.true c.piece_on-p.ensures c.write_piece.ensures

pub shape_of-forms : goal.shape_of-forms
shape_of-forms c = (stepping_sizes c.loop-i.invariant).forms

pub shape_of-coords : goal.shape_of-coords
shape_of-coords c = (stepping_sizes c.loop-i.invariant).coords

pub shape_of-remainders : goal.shape_of-remainders
shape_of-remainders c = (stepping_sizes c.loop-i.invariant).rests

pub returns : goal.returns
returns c = stepping_all c.loop-i.invariant c.loop-i-test.false
