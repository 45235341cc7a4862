-- `hands::with_edge` meets its contract: a turned edge adds its hand, an edge without turns none.
use Rattle.weave_plain.specs.laws.Hands.{with_positive, with_negative, with_unturned}
use Rattle.weave_plain.proofs.hands.with_edge.Goals as goal

pub returns-then-w-gt-UNTURNED : goal.returns-then-w-gt-UNTURNED
returns-then-w-gt-UNTURNED c = with_positive _ _ c.if-w-gt-UNTURNED.true

pub returns-then-w-lt-UNTURNED : goal.returns-then-w-lt-UNTURNED
returns-then-w-lt-UNTURNED c = with_negative _ _ c.if-w-lt-UNTURNED.true

pub returns : goal.returns
returns c = with_unturned _ _ c.if-w-gt-UNTURNED.false c.if-w-lt-UNTURNED.false
