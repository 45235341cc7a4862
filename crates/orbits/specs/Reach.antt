-- Being on one orbit: some number of steps of f takes i to j.
--     reaches          the test, which tries fewer than N steps
use Rattle.std.specs.Prelude.{◌≡◌, Bool, ℕ, zero, ◌<◌, eqb, ltb}
use Rattle.orbits.specs.Count.{count}
use Rattle.orbits.specs.Iterate.{iter}

pub record Reach (f : ℕ → ℕ) (i j : ℕ) : Type 0 where
  pub steps : ℕ
  pub lands : iter f steps i ≡ j

-- j in fewer than n steps from i
pub record Within (f : ℕ → ℕ) (i j n : ℕ) : Type 0 where
  pub steps : ℕ
  pub few : steps < n
  pub lands : iter f steps i ≡ j

-- the test: one of the first N points from i is j
unfoldable pub reaches : (ℕ → ℕ) → ℕ → ℕ → ℕ → Bool
reaches f N i j = ltb zero (count (λ k. eqb (iter f k i) j) N)
