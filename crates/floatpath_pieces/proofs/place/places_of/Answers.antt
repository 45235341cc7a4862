-- `place::places_of` meets its contract: three words for each vertex and each edge.
use Rattle.floatpath_pieces.specs.laws.Places.{ends, places_are}
use native.Mathlib.Omega.{arith}
use Rattle.floatpath_pieces.proofs.place.places_of.Goals as goal

pub bounds-t-e : goal.bounds-t-e
bounds-t-e c = let e = ends c.requires in omega arith

pub overflow_cast-result : goal.overflow_cast-result
overflow_cast-result c = let e = ends c.requires in omega arith

pub overflow_mul-result-2 : goal.overflow_mul-result-2
overflow_mul-result-2 c = let e = ends c.requires in omega arith

pub bounds-t-e-2 : goal.bounds-t-e-2
bounds-t-e-2 c = let e = ends c.requires in omega arith

pub overflow_cast-result-2 : goal.overflow_cast-result-2
overflow_cast-result-2 c = let e = ends c.requires in omega arith

pub overflow_mul-result-4 : goal.overflow_mul-result-4
overflow_mul-result-4 c = let e = ends c.requires in omega arith

pub returns : goal.returns
returns c = places_are _ _
