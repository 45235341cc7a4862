-- `between::lifted` meets its contract: the lift added over and taken off under, each sum within its word.
use Rattle.wholepath_places.proofs.laws.Between.{over_fits, under_fits, lifted_over, lifted_under, lifted_flat}
use Rattle.wholepath_places.proofs.between.lifted.Goals as goal

pub overflow_add-result : goal.overflow_add-result
overflow_add-result c = over_fits c.requires

pub returns-then-letter-eq-OVER : goal.returns-then-letter-eq-OVER
returns-then-letter-eq-OVER c = lifted_over c.requires c.if-letter-eq-OVER.true

pub overflow_sub-result : goal.overflow_sub-result
overflow_sub-result c = under_fits c.requires

pub returns-then-letter-eq-UNDER : goal.returns-then-letter-eq-UNDER
returns-then-letter-eq-UNDER c = lifted_under c.requires c.if-letter-eq-OVER.false c.if-letter-eq-UNDER.true

pub returns : goal.returns
returns c = lifted_flat c.requires c.if-letter-eq-OVER.false c.if-letter-eq-UNDER.false
