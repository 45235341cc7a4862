-- A table with one live dart more: `plus L x` are the darts of L and x, and `Grown` says what such a table keeps.
use Rattle.std.specs.Prelude.{ℕ, ◌<◌, ◌≡◌, refl, Bool, true, ◌||◌, List, ◌≢◌, ◌↔◌, eqb}
use Rattle.std.proofs.Math.Decide.{ℕ_discrete}
use Rattle.std.proofs.Common.{sym, ◌∙◌, eq-eqb, ne_eqb}
use Rattle.table.specs.Layout.{vertices, edges, darts, nothing, leaves, edge_word, vertex_word}
use Rattle.surgery.specs.Without.{bypass}
use Rattle.edits.proofs.laws.Held.{Held, next_in}

-- the darts of L and x
unfoldable pub plus : (ℕ → Bool) → ℕ → ℕ → Bool
plus L x d = eqb d x || L d

pub plus_new : (L : ℕ → Bool) (x : ℕ) → plus L x x ≡ true
unfolding plus
plus_new L x = rw (eq-eqb x x refl)

pub plus_old : (L : ℕ → Bool) (x d : ℕ) → d ≢ x → plus L x d ≡ L d
unfolding plus
plus_old L x d n = rw (ne_eqb d x n)

pub data Plus (L : ℕ → Bool) (x d : ℕ) : Type 0 where
  new : d ≡ x → Plus L x d
  old : d ≢ x → L d ≡ true → Plus L x d

pub plus_case : (L : ℕ → Bool) (x d : ℕ) → plus L x d ≡ true → Plus L x d
plus_case L x d e = elim (ℕ_discrete d x) [
  | yes p ↦ new p
  | no n ↦ old n (sym (plus_old L x d n) ∙ e)
]

-- t with dart x more: the rules hold, and leaving x out again gives the rotation and the words of t
pub record Grown (t u : List ℕ) (L : ℕ → Bool) (x : ℕ) : Type 0 where
  pub held : Held u (plus L x)
  pub next : (d : ℕ) → next_in t L d ≡ bypass (next_in u (plus L x)) x d
  pub from : (d : ℕ) → d < darts → d ≢ x → leaves u d ≡ leaves t d
  pub edge : (e : ℕ) → e < edges → edge_word u e ≡ edge_word t e
  pub there : (v : ℕ) → v < vertices → (vertex_word u v ≡ nothing) ↔ (vertex_word t v ≡ nothing)
