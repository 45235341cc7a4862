-- `piece::piece_on` meets its contract: the piece for the letter of the step, at its point.
use Rattle.floatpath_pieces.specs.laws.Pieces.{piece_readable, piece_is}
use Rattle.floatpath_pieces.proofs.piece.piece_on.Goals as goal

pub point_at-q-requires : goal.point_at-q-requires
point_at-q-requires c = piece_readable c.requires.0 c.places_of-p.ensures c.requires.1

pub returns : goal.returns
returns c = piece_is c.requires.0 c.places_of-p.ensures c.letter_of-l.ensures c.point_at-q.ensures c.piece_for.ensures
