-- `number::number_in` meets its contract. The invariant: the bytes so far are digits, and n is their number, at most the bound.
use Rattle.arguments.specs.laws.Reading.{Reading}
use Rattle.arguments.proofs.number.number_in.Given as goal

abbrev pub invariant-loop-b : goal.invariant-loop-b
invariant-loop-b l = Reading l.s l.most l.n l.b-index
