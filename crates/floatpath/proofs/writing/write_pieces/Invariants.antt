-- `writing::write_pieces` meets its contract. The invariant: the pieces of the n steps so far stand at the front of the slices.
use Rattle.tracing_walks.specs.laws.Steps.{steps_left}
use Rattle.floatpath.specs.laws.Laying.{Laying}
use Rattle.floatpath.proofs.writing.write_pieces.Given as goal

abbrev pub invariant-loop-at : goal.invariant-loop-at
invariant-loop-at l = Laying l.t l.points l.lifts l.s l.yielded (steps_left l.at-iterator) l.n l.initial.forms l.initial.coords l.forms l.coords
