-- The turns that are drawn, as the code makes them.
use Rattle.std.specs.Prelude.{◌≡◌, ℕ, ◌<◌, pos, ◌-ℤ◌, FitsSigned}
use Rattle.std.proofs.Common.{arith, ◌∙◌, ap, to_z, of_z, to_z-of_z}
use Rattle.std.specs.Int.{w16}
use Rattle.std.proofs.Math.Facts.{to_z_pos}
use Rattle.table.specs.laws.Signed.{below, above, minus_difference}

-- turns, less 1 afterwards

module _ (n j : ℕ) (h : n < 3) (l : j < 3) where
  small : FitsSigned w16 (pos n -ℤ pos j)
  small = elim (minus_difference n j) [
    | below b e ↦ rw e (record { sfits = omega arith })
    | above b e ↦ rw e (record { sfits = omega arith })
  ]

  pub turns_fit : FitsSigned w16 (to_z w16 n -ℤ pos j)
  turns_fit = rw (to_z_pos w16 {n = n} (omega arith)) small

  pub turns_are : to_z w16 (of_z w16 (to_z w16 n -ℤ pos j)) ≡ pos n -ℤ pos j
  turns_are = to_z-of_z {w = w16} turns_fit ∙ ap (λ z. z -ℤ pos j) (to_z_pos w16 {n = n} (omega arith))
