-- `piece::point_of` meets its contract: the point that the piece holds, or positive zeros.
use Rattle.floatpath_pieces.specs.laws.Pieces.{zeros}
use Rattle.floatpath_pieces.proofs.piece.point_of.Goals as goal

pub returns-in-Close : goal.returns-in-Close
returns-in-Close c = zeros c.in-Close.is
