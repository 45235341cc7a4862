-- "Points lie within 65,536 either way, lifts within 4,096, so nothing is rounded": what holds of the floats of an accepted path.
use Rattle.std.specs.Prelude.{ℕ, ◌+◌, List, ℤ}
use Rattle.floatpath_pieces.specs.Exact.{Over32}
use Rattle.floatpath_pieces.specs.Path.{sixteenths, first_end, second_end, lift_at, letter_of, thirty_seconds, piece_on, point_of}

-- each coordinate of the piece of step s, times 32, is exactly document 01's whole number
pub record Unrounded (t : List ℕ) (points lifts : List ℤ) (s : ℕ) : Type 0 where
  pub x : Over32 (thirty_seconds (letter_of t s) (sixteenths points (first_end t s)) (sixteenths points (second_end t s)) (sixteenths lifts (lift_at s))) (point_of (piece_on t points lifts s)).x
  pub y : Over32 (thirty_seconds (letter_of t s) (sixteenths points (first_end t s + 1)) (sixteenths points (second_end t s + 1)) (sixteenths lifts (lift_at s + 1))) (point_of (piece_on t points lifts s)).y
  pub z : Over32 (thirty_seconds (letter_of t s) (sixteenths points (first_end t s + 2)) (sixteenths points (second_end t s + 2)) (sixteenths lifts (lift_at s + 2))) (point_of (piece_on t points lifts s)).z
