-- `count::mark_walk` meets its contract. The invariant: the corners of the steps so far are marked, and n is how many they are.
use Rattle.std.specs.Prelude.{◌≡◌, length}
use Rattle.tracing_walks.specs.laws.Size.{Marking}
use Rattle.tracing_walks.specs.laws.Steps.{steps_left}
use Rattle.tracing_walks.proofs.count.mark_walk.Given as goal

abbrev pub invariant-loop-at : goal.invariant-loop-at
invariant-loop-at l = Marking l.t l.s l.initial.met l.yielded (steps_left l.at-iterator) l.met × (l.n ≡ length l.yielded)
