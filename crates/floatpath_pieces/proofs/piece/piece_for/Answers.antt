-- `piece::piece_for` meets its contract: over, under or flat by the letter, with the point passed.
use Rattle.floatpath_pieces.specs.laws.Pieces.{for_over, for_under, for_flat}
use Rattle.floatpath_pieces.proofs.piece.piece_for.Goals as goal

pub returns-then-letter-eq-OVER : goal.returns-then-letter-eq-OVER
returns-then-letter-eq-OVER c = for_over _ _ c.if-letter-eq-OVER.true

pub returns-then-letter-eq-UNDER : goal.returns-then-letter-eq-UNDER
returns-then-letter-eq-UNDER c = for_under _ _ c.if-letter-eq-OVER.false c.if-letter-eq-UNDER.true

pub returns : goal.returns
returns c = for_flat _ _ c.if-letter-eq-OVER.false c.if-letter-eq-UNDER.false
