-- Two rotation systems with the same darts in the same order around each vertex.
use Rattle.std.specs.Prelude.{◌≡◌, ℕ}
use Rattle.table.specs.Rotation.{Rotation}

pub record Alike (R R₁ : Rotation) : Type 0 where
  pub next : (d : ℕ) → R₁.next d ≡ R.next d
