-- A mirror of a map: an involution m that turns each orbit of f into one run the other way. On live numbers m has no
-- fixed point, and never takes i to f i.
use Rattle.std.specs.Prelude.{◌≡◌, ◌≢◌, Bool, ℕ, ◌<◌}
use Rattle.orbits.specs.Orbits.{On}

pub record Mirror (N : ℕ) (f m : ℕ → ℕ) (live : ℕ → Bool) : Type 0 where
  pub fwd : (i : ℕ) → i < N → f i < N
  pub inv : (i : ℕ) → i < N → live (f i) ≡ live i
  pub low : (i : ℕ) → i < N → m i < N
  pub twice : (i : ℕ) → i < N → m (m i) ≡ i
  pub turn : (i : ℕ) → i < N → m (f (m (f i))) ≡ i
  pub keep : (i : ℕ) → i < N → live (m i) ≡ live i
  pub still : (i : ℕ) → On N live i → m i ≢ i
  pub cross : (i : ℕ) → On N live i → f i ≢ m i
