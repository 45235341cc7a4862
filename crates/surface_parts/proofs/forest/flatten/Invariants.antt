-- `forest::flatten` meets its contract. The invariant: the vertices below v point to their roots.
use Rattle.surface_parts.specs.laws.Forest.{Flattening}
use Rattle.surface_parts.proofs.forest.flatten.Given as goal

abbrev pub invariant-loop-v : goal.invariant-loop-v
invariant-loop-v l = Flattening l.initial.up l.initial.turn l.v l.up l.turn
