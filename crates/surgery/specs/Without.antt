-- A rotation system with an edge, and the same without it: what deleting the edge leaves, and what inserting it began from.
use Rattle.std.specs.Prelude.{◌≡◌, Bool, true, not, ◌&&◌, cond, ℕ, ◌+◌, ◌*◌, ◌%◌, eqb}
use Rattle.table.specs.Rotation.{Rotation}
use Rattle.table.specs.Layout.{edge_of}

unfoldable pub bypass : (ℕ → ℕ) → ℕ → ℕ → ℕ
bypass f x d = cond (eqb d x) x (cond (eqb (f d) x) (f x) (f d))

-- is it a dart of another edge
unfoldable pub apart : ℕ → ℕ → Bool
apart e d = not (eqb (edge_of d) e)

-- R has the edge e, and R' is R without it. Which vertices are alone in R' follows, where both are lawful.
pub record Without (R : Rotation) (e : ℕ) (R' : Rotation) : Type 0 where
  pub here : R.live (2 * e) ≡ true
  pub live : (d : ℕ) → R'.live d ≡ (R.live d && apart e d)
  -- the edge's two darts are taken out of the cycle of their vertex
  pub next : (d : ℕ) → R'.next d ≡ bypass (bypass R.next (2 * e)) (2 * e + 1) d
  pub turns : (d : ℕ) → R'.live d ≡ true → R'.turns d % 2 ≡ R.turns d % 2
  pub from : (d : ℕ) → R'.live d ≡ true → R'.from d ≡ R.from d
  pub there : (v : ℕ) → R'.there v ≡ R.there v
