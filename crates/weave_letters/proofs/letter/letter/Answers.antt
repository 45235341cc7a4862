-- `letter::letter` meets its contract, a return for each of the four ways to cross.
use Rattle.weave_letters.specs.laws.Crossing.{rising_over, rising_under, falling_under, falling_over}
use Rattle.weave_letters.proofs.letter.letter.Goals as goal

pub returns-then-w-gt-UNTURNED : goal.returns-then-w-gt-UNTURNED
returns-then-w-gt-UNTURNED c = rising_over _ _ _ c.if-kind-j.true c.if-w-gt-UNTURNED.true

pub returns-then-kind-j : goal.returns-then-kind-j
returns-then-kind-j c = rising_under _ _ _ c.if-kind-j.true c.if-w-gt-UNTURNED.false

pub returns-then-w-gt-UNTURNED-2 : goal.returns-then-w-gt-UNTURNED-2
returns-then-w-gt-UNTURNED-2 c = falling_under _ _ _ c.if-kind-j.false c.if-w-gt-UNTURNED-2.true

pub returns : goal.returns
returns c = falling_over _ _ _ c.if-kind-j.false c.if-w-gt-UNTURNED-2.false
