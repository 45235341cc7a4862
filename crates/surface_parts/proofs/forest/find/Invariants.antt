-- `forest::find` meets its contract. The invariant: the climb is under way, and `at` has the label of v. It ends since each step goes to a smaller vertex.
use Rattle.surface_parts.specs.laws.Forest.{Finding}
use Rattle.surface_parts.proofs.forest.find.Given as goal

abbrev pub invariant-loop-up : goal.invariant-loop-up
invariant-loop-up l = Finding l.initial.up l.initial.turn l.v l.at l.mark l.up l.turn

abbrev pub decreases-loop-up : goal.decreases-loop-up
decreases-loop-up l = l.at
