-- `forest::find` meets its contract. The invariant: the climb is under way, and `at` has the label of v. It ends since each step goes to a smaller vertex.
use Rattle.surface_parts.specs.laws.Forest.{finding_more}
use Rattle.surface_parts.proofs.forest.find.Goals as goal

pub loop-up-preserved : goal.loop-up-preserved
loop-up-preserved c = finding_more c.loop-up.invariant c.lift.ensures.0 c.lift.ensures.1
