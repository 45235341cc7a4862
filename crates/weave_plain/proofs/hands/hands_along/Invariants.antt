-- `hands::hands_along` meets its contract. The invariant: the hands of the edges so far are seen.
use Rattle.tracing_walks.specs.laws.Steps.{steps_left}
use Rattle.weave_plain.specs.laws.Hands.{Seeing}
use Rattle.weave_plain.proofs.hands.hands_along.Given as goal

abbrev pub invariant-loop-at : goal.invariant-loop-at
invariant-loop-at l = Seeing l.t l.s l.yielded (steps_left l.at-iterator) l.seen
