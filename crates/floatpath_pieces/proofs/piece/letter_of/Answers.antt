-- `piece::letter_of` meets its contract: no letter for an edge without turns, else that of the first crossing.
use Rattle.floatpath_pieces.specs.laws.Pieces.{letter_none, letter_one}
use Rattle.floatpath_pieces.proofs.piece.letter_of.Goals as goal

pub returns-then-w-eq-UNTURNED : goal.returns-then-w-eq-UNTURNED
returns-then-w-eq-UNTURNED c = letter_none c.edge_word-w.ensures c.if-w-eq-UNTURNED.true

pub returns : goal.returns
returns c = letter_one c.edge_word-w.ensures c.if-w-eq-UNTURNED.false c.letter.ensures
