-- The Euler number in a signed word of 32 bits: from counts of 16 bits nothing is lost.
--     difference_fits, euler_fits     the difference fits, and the sum;     euler_word     and is V-E+F
use Rattle.std.specs.Prelude.{ℕ, ◌+◌, ◌<◌, ◌^◌, ◌≡◌, ◌+ℤ◌, ◌-ℤ◌}
use Rattle.std.proofs.Common.{arith, ◌∙◌, SFits, to_z, of_z, to_z-of_z}
use mir.Syntax.{w32}
use Rattle.std.proofs.Math.Facts.{to_z_pos}
use Rattle.surface.specs.Signed.{euler_of}
use Rattle.surface.proofs.laws.Signed.{euler_difference}
use Rattle.table.specs.laws.Signed.{mag_minus}

module _ (v e f : ℕ) (a : v < 65536) (b : e < 65536) (c : f < 65536) where
  pub difference_fits : SFits w32 (to_z w32 v -ℤ to_z w32 e)
  difference_fits = rw (to_z_pos w32 {n = v} (omega arith), to_z_pos w32 {n = e} (omega arith)) (record { sfits = mag_minus v e (2 ^ 31) (omega arith) (omega arith) })

  sum_is : to_z w32 (of_z w32 (to_z w32 v -ℤ to_z w32 e)) +ℤ to_z w32 f ≡ euler_of v e f
  unfolding euler_of
  sum_is = rw (to_z-of_z difference_fits, to_z_pos w32 {n = v} (omega arith), to_z_pos w32 {n = e} (omega arith), to_z_pos w32 {n = f} (omega arith))

  pub euler_sfits : SFits w32 (euler_of v e f)
  euler_sfits = rw (euler_difference v e f) (record { sfits = mag_minus (v + f) e (2 ^ 31) (omega arith) (omega arith) })

  pub euler_fits : SFits w32 (to_z w32 (of_z w32 (to_z w32 v -ℤ to_z w32 e)) +ℤ to_z w32 f)
  euler_fits = rw sum_is euler_sfits

  pub euler_word : to_z w32 (of_z w32 (to_z w32 (of_z w32 (to_z w32 v -ℤ to_z w32 e)) +ℤ to_z w32 f)) ≡ euler_of v e f
  euler_word = to_z-of_z euler_fits ∙ sum_is
