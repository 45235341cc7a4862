-- The 32-bit float of z / 32, for a whole number z: what a cast and a division give, and that nothing is rounded.
use Rattle.std.specs.Prelude.{ℕ, suc, ◌*◌, ◌^◌, ◌≤◌, ◌<◌, ◌≡◌, refl, Bool, true, false, T, ℤ, pos, negsuc, nat_abs, Float}
use Rattle.std.proofs.Common.{mul_assoc, mul_comm, mul-pos, lt_of_lt_of_le, zero-lt-suc, sym, ◌∙◌, ap, lit≤, le→leb, lt→ltb, shl_lt}
use Rattle.std.specs.Float.{nan, inf, fin, binary32}
use Rattle.std.specs.Float.Ieee.{up, down, unlike, round, div, of_int, of_bits, in_float}
use Rattle.std.specs.Float.Ieee.Exact.{HasValue, round_exact}
use Rattle.std.specs.Float.Ieee.Back.{round_whole}
use Rattle.std.specs.Float.Ieee.Scale.{round_same}
use Rattle.std.specs.Float.Ieee.Fits.{round-fits, down_pos}
use Rattle.floatpath_pieces.specs.Exact.{sign_of, over32, thirty_two, Over32}

-- "so nothing is rounded"
pub over32_exact : (z : ℤ) → nat_abs z < 2 ^ 24 → Over32 z (over32 z)
unfolding over32
over32_exact z h =
    let n = nat_abs z in
    record {
      fits = round-fits binary32 (sign_of z) n 32;
      value = round_exact binary32 (sign_of z) n 32 n 144 (zero-lt-suc 31) h
          (lt_of_lt_of_le (shl_lt 24 144 h) (lit≤ tt))
          (sym (mul_assoc n (2 ^ 144) 32));
    }

-- "zero is positive zero"
pub over32_zero : over32 (pos 0) ≡ fin false 0 (pos 0)
unfolding over32 round
over32_zero = refl

-- a whole number divided by 32
divided : (s : Bool) (x : Float) (n : ℕ) → HasValue x s n 1 → div binary32 x thirty_two ≡ round binary32 (unlike s false) n 32
unfolding div of_bits
divided s nan n v = absurd v
divided s (inf t) n v = absurd v
divided s (fin t m e) n v =
    ap (λ r. div binary32 (fin r m e) thirty_two) v.0
    ∙ round_same binary32 (unlike s false) (m * up e * 1) (32 * down e) n 32 (mul-pos (zero-lt-suc 31) (down_pos e)) (zero-lt-suc 31)
    (ap (λ k. k * 32) v.1 ∙ mul_assoc n (down e) 32 ∙ ap (λ k. n * k) (mul_comm (down e) 32))

pub over32_divided : (z : ℤ) → nat_abs z ≤ 2 ^ 24 → div binary32 (of_int binary32 z) thirty_two ≡ over32 z
unfolding over32 of_int
over32_divided (pos n) h = divided false (round binary32 false n 1) n (round_whole binary32 false n h)
over32_divided (negsuc n) h = divided true (round binary32 true (suc n) 1) (suc n) (round_whole binary32 true (suc n) h)

-- the cast of a whole number of at most 24 bits loses nothing
pub cast_exact : (z : ℤ) → nat_abs z ≤ 2 ^ 24 → T (in_float binary32 z)
unfolding in_float
cast_exact (pos n) h = le→leb n (2 ^ 24) h
cast_exact (negsuc n) h = lt→ltb n (2 ^ 24) h
