-- `ribbon::write_letters` meets its contract. The invariant: the letters of the steps so far stand at the front of the slice.
use Rattle.tracing_walks.specs.laws.Steps.{steps_left}
use Rattle.weave_letters.specs.laws.Passing.{Lettering}
use Rattle.weave_letters.proofs.ribbon.write_letters.Given as goal

abbrev pub invariant-loop-at : goal.invariant-loop-at
invariant-loop-at l = Lettering l.t l.s l.yielded (steps_left l.at-iterator) l.end l.initial.out l.out
