-- `number::spell` meets its contract. The invariant: the digits after index i stand, and those of the rest go before them.
use Rattle.text.specs.laws.Writing.{Spelling}
use Rattle.text.proofs.number.spell.Given as goal

abbrev pub invariant-loop-rest : goal.invariant-loop-rest
invariant-loop-rest l = Spelling l.n l.i l.rest l.digits

abbrev pub decreases-loop-rest : goal.decreases-loop-rest
decreases-loop-rest l = l.rest
