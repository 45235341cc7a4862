-- Connected parts and marks, document 01, "Counts", in its own words: a chain of live edges, and marks that exist.
--     Chain                chains of live edges;     PartOf     the vertices that chains join with one
--     Orientable           marks exist that agree with each edge of a part
use Rattle.std.specs.Prelude.{ℕ, ◌%◌, ◌<◌, ◌≡◌, Bool, true, ◌↔◌}
use Rattle.table.specs.Layout.{rev}
use Rattle.table.specs.Rotation.{Rotation}

-- "a chain of live edges joins them"; with no edge in it, a chain joins a vertex with itself: "an isolated vertex is a part alone"
pub data Chain (R : Rotation) (u : ℕ) : ℕ → Type 0 where
  here : Chain R u u
  by_edge : (d : ℕ) → R.live d ≡ true → Chain R u (R.from d) → Chain R u (R.from (rev d))

-- Q is the part of r
pub record PartOf (R : Rotation) (r : ℕ) (Q : ℕ → Bool) : Type 0 where
  pub joins : (w : ℕ) → Q w ≡ true → Chain R r w
  pub all : (w : ℕ) → Chain R r w → Q w ≡ true

-- "A part is orientable if its vertices can be marked 0 or 1 so that each edge's turns are even exactly when its ends' marks agree."
pub record Orientable (R : Rotation) (Q : ℕ → Bool) : Type 0 where
  pub mark : ℕ → ℕ
  pub bit : (w : ℕ) → mark w < 2
  pub agree : (d : ℕ) → R.live d ≡ true → Q (R.from d) ≡ true → (R.turns d % 2 ≡ 0) ↔ (mark (R.from d) ≡ mark (R.from (rev d)))
