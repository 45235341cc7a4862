-- `piece::spots` meets its contract: one piece for an edge without turns, else one for each crossing.
use Rattle.wholepath_pieces.specs.laws.Pieces.{spots_flat, spots_turned}
use Rattle.wholepath_pieces.proofs.piece.spots.Goals as goal

pub returns-then-w-eq-UNTURNED : goal.returns-then-w-eq-UNTURNED
returns-then-w-eq-UNTURNED c = spots_flat c.if-w-eq-UNTURNED.true

pub returns : goal.returns
returns c = spots_turned c.if-w-eq-UNTURNED.false c.crossings.ensures
