-- Steps of a map.
--     iter             k steps of f from i
--     Inj              f keeps the numbers below N, and is injective on them
use Rattle.std.specs.Prelude.{◌≡◌, ℕ, zero, suc, ◌<◌}

unfoldable pub iter : (ℕ → ℕ) → ℕ → ℕ → ℕ
iter f zero i = i
iter f (suc k) i = f (iter f k i)

pub record Inj (N : ℕ) (f : ℕ → ℕ) : Type 0 where
  pub fwd : (i : ℕ) → i < N → f i < N
  pub inj : (i j : ℕ) → i < N → j < N → f i ≡ f j → i ≡ j
