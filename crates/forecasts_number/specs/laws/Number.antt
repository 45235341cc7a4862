-- The number that a host hands over: below 0, or one of 63 bits that is taken apart.
use Rattle.std.specs.Prelude.{ℕ, ◌/◌, ◌%◌, ◌^◌, ◌<◌, ◌≡◌, refl, true, false, T, ℤ, pos, negsuc, nat_abs}
use Rattle.std.proofs.Common.{arith, subst, Fits, SFits, to_z, of_z, to_z-of_z, ltb-true}
use Rattle.std.specs.Int.Signed.{lt_z, non_neg, mag}
use Rattle.std.specs.Int.{w32, w64}
use Rattle.forecasts.specs.Number.{forecast_in}

-- the number's bits, where it is not below 0
pub record Bits (z : ℤ) : Type 0 where
  pub bits : ℕ
  pub held : to_z w64 (of_z w64 z) ≡ pos bits
  pub same : z ≡ pos bits
  pub low : bits < 2 ^ 63

module _ {z : ℤ} (f : SFits w64 z) where
  pub is_below : lt_z (to_z w64 (of_z w64 z)) (pos 0) ≡ true → record { before = 0; after = 0; rule = 0 } ≡ forecast_in z
  is_below e = by z (subst (λ x. lt_z x (pos 0) ≡ true) (to_z-of_z {w = w64} f) e)
    where
      by : (x : ℤ) → lt_z x (pos 0) ≡ true → record { before = 0; after = 0; rule = 0 } ≡ forecast_in x
      by (pos n) h = let l = ltb-true n 0 h in absurd (omega arith)
      by (negsuc n) h = refl

  pub not_below : lt_z (to_z w64 (of_z w64 z)) (pos 0) ≡ false → Bits z
  not_below e = by z f.sfits (subst (λ x. lt_z x (pos 0) ≡ false) (to_z-of_z {w = w64} f) e) (to_z-of_z {w = w64} f)
    where
      by : (x : ℤ) → mag x < 2 ^ 63 → lt_z x (pos 0) ≡ false → to_z w64 (of_z w64 x) ≡ x → Bits x
      by (pos n) l h q = record { bits = n; held = q; same = refl; low = l }
      by (negsuc n) l h q = let c : ◌≡◌ {A = ℕ} 0 1 = cc in absurd (omega arith)

module _ {z : ℤ} (b : Bits z) where
  pub bits_cast : T (non_neg (to_z w64 (of_z w64 z))) × Fits w64 (nat_abs (to_z w64 (of_z w64 z)))
  bits_cast = let l = b.low in (rw b.held tt, rw b.held (record { fits = omega arith }))

  pub before_fits : Fits w32 (nat_abs (to_z w64 (of_z w64 z)) / 4294967296)
  before_fits = let l = b.low in rw b.held (record { fits = omega arith })

  pub bits_read : record {
    before = nat_abs (to_z w64 (of_z w64 z)) / 4294967296;
    after = nat_abs (to_z w64 (of_z w64 z)) % 65536;
    rule = nat_abs (to_z w64 (of_z w64 z)) / 65536 % 65536;
  } ≡ forecast_in z
  bits_read = rw (b.held, b.same)
