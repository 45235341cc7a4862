-- One map that follows another: g goes on from j to the next marked number after φ j on the orbit of f. So φ may rename
-- points, and the numbers that are not marked are passed over.
--     Skip             j is the first marked number after i
--     Follows          g follows f under φ
use Rattle.std.specs.Prelude.{◌≡◌, Bool, true, false, ℕ}
use Rattle.orbits.specs.Count.{Partner}
use Rattle.orbits.specs.Reach.{Reach}
use Rattle.orbits.specs.Orbits.{On}

pub data Skip (f : ℕ → ℕ) (marked : ℕ → Bool) : ℕ → ℕ → Type 0 where
  land : {i j : ℕ} → marked j ≡ true → f i ≡ j → Skip f marked i j
  pass : {i j : ℕ} → marked (f i) ≡ false → Skip f marked (f i) j → Skip f marked i j

pub record Follows (M N : ℕ) (g f : ℕ → ℕ) (on live marked : ℕ → Bool) (φ : ℕ → ℕ) : Type 0 where
  pub lives : (j : ℕ) → On M on j → On N live (φ j)
  pub mark : (j : ℕ) → On M on j → marked (φ j) ≡ true
  pub one : (i j : ℕ) → On M on i → On M on j → φ i ≡ φ j → i ≡ j
  pub skip : (j : ℕ) → On M on j → Skip f marked (φ j) (φ (g j))
  pub meet : (i : ℕ) → On N live i → Partner (λ i j. Reach f i (φ j)) on M i
