-- Labels and marks found by a fold over the live edges, and what they answer: two vertices have one label exactly if a chain joins them,
-- the label is the smallest vertex of its part, and the part is orientable exactly if the marks found agree with each of its edges.
-- So labels are the same however they are found, and so is the answer whether a part is orientable.
--     label, in_part       the smallest vertex of a part, and which vertices the part has
--     orientable           do the marks found agree with each edge of the part
use Rattle.std.specs.Prelude.{ℕ, ◌+◌, ◌*◌, ◌%◌, Bool, not, ◌&&◌, eqb}
use Rattle.table.specs.Layout.{edges}
use Rattle.table.specs.Rotation.{Rotation}
use Rattle.orbits.specs.Count.{count}
use Rattle.tracing.specs.Met.{live_edges}
use Rattle.surface.specs.Links.{Spot, spot, links}

-- is the vertex labelled r
abbrev pub labelled : (ℕ → Spot) → ℕ → ℕ → Bool
labelled s r w = eqb (s w).label r

-- do the marks of its ends agree with the turns of edge e
unfoldable pub agrees : Rotation → (ℕ → Spot) → ℕ → Bool
agrees R s e = eqb ((R.turns (2 * e) + (s (R.from (2 * e))).mark + (s (R.from (2 * e + 1))).mark) % 2) 0

-- an edge of the part labelled r whose turns do not agree
unfoldable pub twisted : Rotation → (ℕ → Spot) → ℕ → ℕ → Bool
twisted R s r e = R.live (2 * e) && (labelled s r (R.from (2 * e)) && not (agrees R s e))

-- no edge of the part is such
unfoldable pub untwisted : Rotation → (ℕ → Spot) → ℕ → Bool
untwisted R s r = eqb (count (twisted R s r) edges) 0

-- those of the fold over the live edges

unfoldable pub spots : Rotation → ℕ → Spot
spots R = spot (links R (live_edges R edges))

-- the smallest vertex of the part of w
unfoldable pub label : Rotation → ℕ → ℕ
label R w = (spots R w).label

-- is w in the part labelled r
unfoldable pub in_part : Rotation → ℕ → ℕ → Bool
in_part R r w = eqb (label R w) r

-- is the part labelled r orientable
unfoldable pub orientable : Rotation → ℕ → Bool
orientable R r = untwisted R (spots R) r
