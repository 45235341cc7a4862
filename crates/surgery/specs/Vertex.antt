-- An isolated vertex added: the two rotation systems, side by side.
use Rattle.std.specs.Prelude.{◌≡◌, ◌≢◌, true, false, ℕ, ◌%◌, ◌<◌}
use Rattle.table.specs.Layout.{darts}
use Rattle.table.specs.Rotation.{Rotation}
use Rattle.surgery.specs.Alike.{Alike}

pub record Added (R : Rotation) (v : ℕ) (R₁ : Rotation) : Type 0 where
  pub fresh : R.there v ≡ false
  pub now : R₁.alone v ≡ true
  pub live : (d : ℕ) → R₁.live d ≡ R.live d
  pub next : Alike R R₁
  pub turns : (d : ℕ) → d < darts → R₁.turns d % 2 ≡ R.turns d % 2
  pub alone : (u : ℕ) → u ≢ v → R₁.alone u ≡ R.alone u
