-- An edge turned: the two rotation systems, side by side.
use Rattle.std.specs.Prelude.{◌≡◌, ◌≢◌, true, ℕ, ◌*◌, ◌%◌}
use Rattle.table.specs.Layout.{edge_of}
use Rattle.table.specs.Rotation.{Rotation}
use Rattle.surgery.specs.Alike.{Alike}

pub record Turned (R : Rotation) (e : ℕ) (R₁ : Rotation) : Type 0 where
  pub here : R.live (2 * e) ≡ true
  pub live : (d : ℕ) → R₁.live d ≡ R.live d
  pub next : Alike R R₁
  pub turns : (d : ℕ) → edge_of d ≢ e → R₁.turns d % 2 ≡ R.turns d % 2
  pub alone : (v : ℕ) → R₁.alone v ≡ R.alone v
