-- `writing::write_pieces` meets its contract. The invariant: the pieces of the steps so far stand at the front of the slices.
use Rattle.tracing_walks.specs.laws.Steps.{steps_left}
use Rattle.wholepath_writing.specs.laws.Written.{out}
use Rattle.wholepath_writing.specs.laws.Laying.{Laying}
use Rattle.wholepath_writing.proofs.writing.write_pieces.Given as goal

abbrev pub invariant-loop-at : goal.invariant-loop-at
invariant-loop-at l =
    Laying l.t l.points l.lifts l.s l.yielded (steps_left l.at-iterator) l.n (out l.initial.forms l.initial.coords l.initial.remainders) (out l.forms l.coords l.remainders)
