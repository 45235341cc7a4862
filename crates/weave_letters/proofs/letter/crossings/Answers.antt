-- `letter::crossings` meets its contract: the turns either way from the word of an edge without turns.
use Rattle.weave_letters.specs.laws.Crossing.{crossings_low, crossings_high}
use Rattle.weave_letters.proofs.letter.crossings.Goals as goal

pub returns-then-w-lt-UNTURNED : goal.returns-then-w-lt-UNTURNED
returns-then-w-lt-UNTURNED c = crossings_low c.if-w-lt-UNTURNED.true

pub returns : goal.returns
returns c = crossings_high c.if-w-lt-UNTURNED.false
