-- `corner::is_corner` meets its contract, a return for each kind of word.
use Rattle.tracing_walks.specs.laws.Present.{formed_dart, formed_not, formed_lone}
use Rattle.tracing_walks.proofs.corner.is_corner.Goals as goal

pub returns-then-n-lt-DARTS : goal.returns-then-n-lt-DARTS
returns-then-n-lt-DARTS c = formed_dart _ c.if-n-lt-DARTS.true

pub returns-then-c-lt-LONE : goal.returns-then-c-lt-LONE
returns-then-c-lt-LONE c = formed_not _ c.if-n-lt-DARTS.false c.if-c-lt-LONE.true

pub returns : goal.returns
returns c = formed_lone _ c.if-c-lt-LONE.false
