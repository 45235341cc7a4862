-- The 32-bit float of z / 32, for a whole number z: what a cast and a division give, and when it is exact.
use Rattle.std.specs.Prelude.{ℕ, Bool, true, false, T, ℤ, pos, negsuc, nat_abs, Float}
use Rattle.std.specs.Float.{binary32}
use Rattle.std.specs.Float.Ieee.{round, fits, of_bits}
use Rattle.std.specs.Float.Ieee.Exact.{HasValue}

-- two points' coordinates and two lifts have at most this sum, either way
abbrev pub largest : ℕ
largest = 139264

-- is z below zero
abbrev pub sign_of : ℤ → Bool
sign_of (pos n) = false
sign_of (negsuc n) = true

-- the 32-bit float nearest to z / 32; `over32_exact` says that it is z / 32
unfoldable pub over32 : ℤ → Float
over32 z = round binary32 (sign_of z) (nat_abs z) 32

-- the float 32, as its bits
abbrev pub thirty_two : Float
thirty_two = of_bits binary32 1107296256

-- "a coordinate times 32 is exactly" z: the float is finite, its sign is that of z, and 32 times its size is the size of z
pub record Over32 (z : ℤ) (x : Float) : Type 0 where
  pub fits : T (fits binary32 x)
  pub value : HasValue x (sign_of z) (nat_abs z) 32
