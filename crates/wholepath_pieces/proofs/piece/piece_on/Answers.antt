-- `piece::piece_on` meets its contract: the letter and the number of the crossing, and the piece for them.
use Rattle.wholepath_pieces.specs.laws.Pieces.{spot_read, piece_is}
use Rattle.wholepath_pieces.proofs.piece.piece_on.Goals as goal

pub spot_at-q-requires : goal.spot_at-q-requires
spot_at-q-requires c = spot_read c.requires c.spots-n.ensures c.args.s c.crossing-j.ensures

pub returns : goal.returns
returns c = piece_is c.requires c.spots-n.ensures _ c.crossing-j.ensures c.letter_at-l.ensures c.spot_at-q.ensures c.piece_for.ensures
