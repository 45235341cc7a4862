-- Where an inserted edge sits: each of its darts just before the dart that names its corner, or one after the other before it where
-- the two corners are the same; at an isolated vertex's corner, alone at that vertex.
--     Sits, Inserted       a dart at its corner; both darts at theirs
use Rattle.std.specs.Prelude.{◌≡◌, true, ℕ, ◌+◌, ◌*◌}
use Rattle.table.specs.Layout.{edge_of}
use Rattle.table.specs.Rotation.{Rotation}
use Rattle.tracing.specs.Listing.{lone_corner}

-- dart x of edge e, in R, at corner c of R'
pub data Sits (R : Rotation) (e : ℕ) (R' : Rotation) (x c : ℕ) : Type 0 where
  just_before : R'.live c ≡ true → R.next x ≡ c → Sits R e R' x c
  before_other : R'.live c ≡ true → edge_of (R.next x) ≡ e → R.next (R.next x) ≡ c → Sits R e R' x c
  at_vertex : (v : ℕ) → c ≡ lone_corner v → R'.alone v ≡ true → R.from x ≡ v → Sits R e R' x c

pub record Inserted (R : Rotation) (e : ℕ) (R' : Rotation) (c₁ c₂ : ℕ) : Type 0 where
  pub first : Sits R e R' (2 * e) c₁
  pub second : Sits R e R' (2 * e + 1) c₂
