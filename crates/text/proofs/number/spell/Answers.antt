-- `number::spell` meets its contract. The invariant: the digits after index i stand, and those of the rest go before them.
use Rattle.text.specs.laws.Writing.{spelling_none, spelling_room, spelling_more, spelling_all}
use mathlib.Core.Path.{refl}
use native.Mathlib.Omega.{arith}
use Rattle.text.proofs.number.spell.Goals as goal

pub loop-rest-init : goal.loop-rest-init
loop-rest-init c = spelling_none (omega arith) c.requires

pub overflow_sub-i : goal.overflow_sub-i
overflow_sub-i c = spelling_room c.loop-rest.invariant c.loop-rest-test.true

pub loop-rest-preserved : goal.loop-rest-preserved
loop-rest-preserved c = spelling_more c.loop-rest.invariant c.loop-rest-test.true refl

pub returns : goal.returns
returns c = spelling_all c.loop-rest.invariant (omega arith) refl
