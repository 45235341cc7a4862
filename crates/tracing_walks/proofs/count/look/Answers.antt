-- `count::look` meets its contract, a return for each case: a dart that is not live, a corner that is marked, a start.
use Rattle.tracing_walks.specs.laws.Size.{looked_dead, looked_met, looked_walk, start_stands}
use Rattle.tracing_walks.proofs.count.look.Goals as goal

pub returns-then-t-d-eq0 : goal.returns-then-t-d-eq0
returns-then-t-d-eq0 c = looked_dead _ _ _ c.if-t-d-eq0.true

pub returns-then-met-d-ne0 : goal.returns-then-met-d-ne0
returns-then-met-d-ne0 c = looked_met _ _ _ c.if-met-d-ne0.true

pub mark_walk-requires : goal.mark_walk-requires
mark_walk-requires c = (start_stands c.requires c.if-t-d-eq0.false, c.requires.size)

pub returns : goal.returns
returns c = looked_walk c.requires c.if-t-d-eq0.false c.if-met-d-ne0.false c.mark_walk.ensures
