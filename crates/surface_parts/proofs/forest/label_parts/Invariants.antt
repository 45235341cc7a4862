-- `forest::label_parts` meets its contract. The invariant: the edges below e are taken in.
use Rattle.surface_parts.specs.laws.Linking.{Linking}
use Rattle.surface_parts.proofs.forest.label_parts.Given as goal

abbrev pub invariant-loop-e : goal.invariant-loop-e
invariant-loop-e l = Linking l.t l.e l.up l.turn
