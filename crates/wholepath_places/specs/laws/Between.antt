-- What is asked and kept of the numbers that a place is made of.
use Prim.Native.Nat.{ℕ, ◌*◌, ◌≤◌, ◌<◌}
use Rattle.std.specs.Prelude.{◌≡◌, ℤ, nat_abs, ◌-ℤ◌}
use Rattle.std.proofs.Math.IntN.{pos}
use Rattle.floatpath_pieces.specs.Path.{farthest_point, farthest_lift}

-- a coordinate, counted from the lowest
pub record Raised (a : ℤ) (r : ℕ) : Type 0 where
  pub is : a ≡ pos r -ℤ pos farthest_point
  pub most : r ≤ 2 * farthest_point

-- crossing j of n, between two points in range
pub record Between (n j : ℕ) (a b : ℤ) : Type 0 where
  pub few : n ≤ 99
  pub among : j < n
  pub first : nat_abs a ≤ farthest_point
  pub second : nat_abs b ≤ farthest_point

-- the lift
pub record NearLift (z l : ℤ) : Type 0 where
  pub place : nat_abs z ≤ farthest_point
  pub lift : nat_abs l ≤ farthest_lift

-- crossing j of n with its lift
pub record Crossing (n j : ℕ) (a b l : ℤ) : Type 0 where
  pub between : Between n j a b
  pub lift : nat_abs l ≤ farthest_lift
