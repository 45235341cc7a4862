-- The number of orbits of a map on the live numbers below N.
--     orbits           how many live numbers are least on their orbit
--     World, On        f is injective below N and keeps `live`; x is a live number below N
use Rattle.std.specs.Prelude.{◌≡◌, Bool, true, ℕ, ◌<◌}
use Rattle.orbits.specs.Iterate.{Inj}
use Rattle.orbits.specs.Reach.{reaches}
use Rattle.orbits.specs.Classes.{classes}

unfoldable pub orbits : (ℕ → ℕ) → ℕ → (ℕ → Bool) → ℕ
orbits f N live = classes (reaches f N) N live

pub record World (N : ℕ) (f : ℕ → ℕ) (live : ℕ → Bool) : Type 0 where
  pub perm : Inj N f
  pub inv : (i : ℕ) → i < N → live (f i) ≡ live i

pub record On (N : ℕ) (live : ℕ → Bool) (x : ℕ) : Type 0 where
  pub lt : x < N
  pub on : live x ≡ true
