-- V, E and F of the mesh and of a part, document 01, "Counts".
--     vertices_in, edges_in, walks_in  those at the vertices that pass a test
use Rattle.std.specs.Prelude.{ℕ, ◌-◌, ◌*◌, Bool, ◌&&◌, cond, ltb}
use Rattle.table.specs.Layout.{vertices, edges, lone_at}
use Rattle.table.specs.Rotation.{Rotation}
use Rattle.orbits.specs.Count.{count}
use Rattle.tracing.specs.Listing.{faces}
use Rattle.tracing.specs.Met.{count_in}

-- "V, E, F are live vertices, live edges, listed walks": E and F are tracing's `edge_count` and `face_count`
unfoldable pub vertex_count : Rotation → ℕ
vertex_count R = count R.there vertices

-- those of the vertices that pass Q, as the vertices of a part
unfoldable pub vertices_in : Rotation → (ℕ → Bool) → ℕ
vertices_in R Q = count (λ v. R.there v && Q v) vertices

-- an edge is in the part of its ends
unfoldable pub edges_in : Rotation → (ℕ → Bool) → ℕ
edges_in R Q = count (λ e. R.live (2 * e) && Q (R.from (2 * e))) edges

-- the vertex that a corner is at: the one that its dart leaves; "An isolated vertex v has one corner, named 32,768+v."
unfoldable pub corner_vertex : Rotation → ℕ → ℕ
corner_vertex R c = cond (ltb c lone_at) (R.from c) (c - lone_at)

-- "A walk is in the part whose corners it meets.": a listed face is named by the corner that its walk starts at, and its other corners
-- are in the same part
unfoldable pub walks_in : Rotation → (ℕ → Bool) → ℕ
walks_in R Q = count_in (λ c. Q (corner_vertex R c)) (faces R)
