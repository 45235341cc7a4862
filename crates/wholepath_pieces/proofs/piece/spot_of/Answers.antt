-- `piece::spot_of` meets its contract: the spot that the piece holds, or zeros.
use Rattle.wholepath_pieces.specs.laws.Pieces.{zeros}
use Rattle.wholepath_pieces.proofs.piece.spot_of.Goals as goal

pub returns-in-Close : goal.returns-in-Close
returns-in-Close c = zeros c.in-Close.is
