-- `piece::crossing` meets its contract: rising along the even dart, falling along the odd one.
use Rattle.wholepath_pieces.specs.laws.Pieces.{number_rising, number_falling}
use Rattle.wholepath_pieces.proofs.piece.crossing.Goals as goal

pub returns-then-dart-eq0 : goal.returns-then-dart-eq0
returns-then-dart-eq0 c = number_rising _ _ _ c.if-dart-eq0.true

pub returns : goal.returns
returns c = number_falling _ _ _ c.if-dart-eq0.false
