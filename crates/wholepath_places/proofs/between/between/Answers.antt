-- `between::between` meets its contract: a division of numbers that are not negative, and none of them passes its word.
use Rattle.wholepath_places.proofs.laws.Between.{first_raised, second_raised, weights, first_fits, second_fits, sum_fits, quotient_fits, word_fits, product_fits, product_low, rest_fits, place_made}
use Rattle.wholepath_places.proofs.between.between.Goals as goal

pub overflow_mul-sum : goal.overflow_mul-sum
overflow_mul-sum c = first_fits c.requires c.raised.ensures

pub overflow_mul-sum-2 : goal.overflow_mul-sum-2
overflow_mul-sum-2 c = second_fits (weights c.requires c.raised.ensures c.raised-2.ensures)

pub overflow_add-sum : goal.overflow_add-sum
overflow_add-sum c = sum_fits (weights c.requires c.raised.ensures c.raised-2.ensures)

pub overflow_cast-result : goal.overflow_cast-result
overflow_cast-result c = quotient_fits (weights c.requires c.raised.ensures c.raised-2.ensures)

pub overflow_sub-result : goal.overflow_sub-result
overflow_sub-result c = word_fits (weights c.requires c.raised.ensures c.raised-2.ensures)

pub overflow_mul-result : goal.overflow_mul-result
overflow_mul-result c = product_fits (weights c.requires c.raised.ensures c.raised-2.ensures)

pub overflow_sub-result-2 : goal.overflow_sub-result-2
overflow_sub-result-2 c = product_low (weights c.requires c.raised.ensures c.raised-2.ensures)

pub overflow_cast-result-2 : goal.overflow_cast-result-2
overflow_cast-result-2 c = rest_fits (weights c.requires c.raised.ensures c.raised-2.ensures)

pub returns : goal.returns
returns c = place_made c.requires (first_raised c.requires c.raised.ensures) (second_raised c.requires c.raised-2.ensures)
