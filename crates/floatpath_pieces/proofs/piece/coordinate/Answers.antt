-- `piece::coordinate` meets its contract: over, under or flat, each sum within its word and the float exact.
use Rattle.floatpath_pieces.specs.laws.Coordinate.{ends_fit, twice_fits, over_fits, under_fits, over_small, under_small, flat_small, coordinate_over, coordinate_under, coordinate_flat}
use Rattle.floatpath_pieces.proofs.piece.coordinate.Goals as goal

pub overflow_add-a : goal.overflow_add-a
overflow_add-a c = ends_fit c.requires

pub overflow_mul-l : goal.overflow_mul-l
overflow_mul-l c = twice_fits c.requires

pub overflow_add-a-then-letter-eq-OVER : goal.overflow_add-a-then-letter-eq-OVER
overflow_add-a-then-letter-eq-OVER c = over_fits c.requires

pub over_32-requires : goal.over_32-requires
over_32-requires c = over_small c.requires

pub returns-then-letter-eq-OVER : goal.returns-then-letter-eq-OVER
returns-then-letter-eq-OVER c = coordinate_over c.requires c.if-letter-eq-OVER.true c.over_32.ensures

pub overflow_add-a-then-letter-eq-UNDER : goal.overflow_add-a-then-letter-eq-UNDER
overflow_add-a-then-letter-eq-UNDER c = ends_fit c.requires

pub overflow_mul-l-then-letter-eq-UNDER : goal.overflow_mul-l-then-letter-eq-UNDER
overflow_mul-l-then-letter-eq-UNDER c = twice_fits c.requires

pub overflow_sub-a : goal.overflow_sub-a
overflow_sub-a c = under_fits c.requires

pub over_32-requires-then-letter-eq-UNDER : goal.over_32-requires-then-letter-eq-UNDER
over_32-requires-then-letter-eq-UNDER c = under_small c.requires

pub returns-then-letter-eq-UNDER : goal.returns-then-letter-eq-UNDER
returns-then-letter-eq-UNDER c = coordinate_under c.requires c.if-letter-eq-OVER.false c.if-letter-eq-UNDER.true c.over_32-then-letter-eq-UNDER.ensures

pub overflow_add-a-2 : goal.overflow_add-a-2
overflow_add-a-2 c = ends_fit c.requires

pub over_32-requires-2 : goal.over_32-requires-2
over_32-requires-2 c = flat_small c.requires

pub returns : goal.returns
returns c = coordinate_flat c.requires c.if-letter-eq-OVER.false c.if-letter-eq-UNDER.false c.over_32-2.ensures
