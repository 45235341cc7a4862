-- What the listed walks meet and pass: their corners, their steps, and how often. "A step is on its dart's edge"; "E: live edges".
use Rattle.std.specs.Prelude.{ℕ, zero, suc, ◌+◌, ◌*◌, ◌/◌, Bool, true, false, List, [], ◌∷◌, ◌++◌, eqb, ltb}
use Rattle.table.specs.Rotation.{Rotation}
use Rattle.orbits.specs.Count.{more_if, count}
use Rattle.tracing.specs.Listing.{gather, only, starts, faces}
use Rattle.table.specs.Layout.{darts, edges, lone_at}
use Rattle.tracing.specs.Walk.{walk, corners}

-- the corners that a listed face's walk meets; "An empty walk meets its vertex's corner"
unfoldable pub corners_of : Rotation → ℕ → List ℕ
corners_of R c = elim (ltb c lone_at) [ true ↦ corners R (2 * c) | false ↦ c ∷ [] ]

-- the corners that the listed walks meet, in the order of the listing
unfoldable pub listed_corners : Rotation → List ℕ
listed_corners R = gather (corners_of R) (faces R)

-- the steps of the listed walks, in the order of the listing
unfoldable pub listed_steps : Rotation → List ℕ
listed_steps R = gather (λ a. walk R (2 * a)) (starts R darts)

-- "A step is on its dart's edge"
abbrev pub on_edge : ℕ → ℕ → Bool
on_edge e s = eqb (s / 4) e

-- how many members pass a test
unfoldable pub count_in : (ℕ → Bool) → List ℕ → ℕ
count_in q [] = 0
count_in q (x ∷ l) = more_if (q x) (count_in q l)

-- how often x is among these
abbrev pub times : ℕ → List ℕ → ℕ
times x l = count_in (λ y. eqb x y) l

-- the sum over a list of what each member gives
unfoldable pub total : (ℕ → ℕ) → List ℕ → ℕ
total f [] = 0
total f (x ∷ l) = f x + total f l

-- "E: live edges"
unfoldable pub edge_count : Rotation → ℕ
edge_count R = count (λ e. R.live (2 * e)) edges

-- the live edges below n, upward
unfoldable pub live_edges : Rotation → ℕ → List ℕ
live_edges R zero = []
live_edges R (suc e) = live_edges R e ++ only (R.live (2 * e)) e
