-- `forest::begin` meets its contract. The invariant: the vertices below v point to themselves.
use Rattle.surface_parts.specs.laws.Linking.{Fresh}
use Rattle.surface_parts.proofs.forest.begin.Given as goal

abbrev pub invariant-loop-v : goal.invariant-loop-v
invariant-loop-v l = Fresh l.v l.up
