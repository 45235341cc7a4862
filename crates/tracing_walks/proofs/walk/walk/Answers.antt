-- `walk` begins with no step behind it.
use Rattle.tracing_walks.specs.laws.Onward.{walk_begins, on_way_none}
use Rattle.tracing_walks.proofs.walk.walk.Goals as goal

pub invariant_of-result : goal.invariant_of-result
invariant_of-result c = record { begin = walk_begins c.requires; on_way = on_way_none _ _ }
