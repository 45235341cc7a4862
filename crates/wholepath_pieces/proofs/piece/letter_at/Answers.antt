-- `piece::letter_at` meets its contract: no letter for an edge without turns, else that of the crossing.
use Rattle.wholepath_pieces.specs.laws.Pieces.{letter_none, letter_there}
use Rattle.wholepath_pieces.proofs.piece.letter_at.Goals as goal

pub returns-then-w-eq-UNTURNED : goal.returns-then-w-eq-UNTURNED
returns-then-w-eq-UNTURNED c = letter_none _ _ _ c.if-w-eq-UNTURNED.true

pub returns : goal.returns
returns c = letter_there _ _ _ c.if-w-eq-UNTURNED.false c.requires.0 c.requires.1 c.letter.ensures
