-- `number::number_in` meets its contract. The invariant: the first i bytes are digits, and n is their number, at most the bound.
use Rattle.arguments.specs.laws.Reading.{empty_nothing, reading_below, reading_above, reading_large, reading_more, reading_all}
use native.Mathlib.Omega.{arith}
use Rattle.arguments.proofs.number.number_in.Goals as goal

pub returns-then-s-lt1 : goal.returns-then-s-lt1
returns-then-s-lt1 c = empty_nothing _ _ (omega arith)

pub returns-then-b-lt48 : goal.returns-then-b-lt48
returns-then-b-lt48 c = reading_below c.loop-b.invariant c.loop-b-test.true (omega arith)

pub returns-then-b-gt57 : goal.returns-then-b-gt57
returns-then-b-gt57 c = reading_above c.loop-b.invariant c.loop-b-test.true (omega arith)

pub returns-then-bound-n : goal.returns-then-bound-n
returns-then-bound-n c = reading_large c.loop-b.invariant c.loop-b-test.true c.if-bound-n.true

pub loop-b-preserved : goal.loop-b-preserved
loop-b-preserved c = reading_more c.loop-b.invariant c.loop-b-test.true (omega arith) (omega arith) c.if-bound-n.false

pub returns : goal.returns
returns c = reading_all c.loop-b.invariant c.loop-b-test.false (omega arith)
