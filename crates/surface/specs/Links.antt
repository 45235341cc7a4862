-- The parts and their marks found: a fold over the live edges. Each edge links two labels, and a vertex follows the links made so far
-- from itself to the label of its part. Two vertices have one label exactly if a chain joins them, and the label is the smallest of them.
--     Link, Spot, spot     a link; where a vertex has come to, and its mark there
--     links                one link for each edge of a list
use Rattle.std.specs.Prelude.{ℕ, ◌+◌, ◌*◌, ◌%◌, min, max, true, false, List, [], ◌∷◌, eqb}
use Rattle.table.specs.Rotation.{Rotation}

-- the vertices labelled `high` get the label `low`, and `shift` is added to their marks
pub record Link : Type 0 where
  pub high : ℕ
  pub low : ℕ
  pub shift : ℕ

-- the label and the mark of a vertex
pub record Spot : Type 0 where
  pub label : ℕ
  pub mark : ℕ

unfoldable pub moved : Link → Spot → Spot
moved k s = elim (eqb s.label k.high) [ true ↦ record { label = k.low; mark = (s.mark + k.shift) % 2 } | false ↦ s ]

-- where a vertex comes to by these links, the latest first: at the beginning each is labelled by itself
unfoldable pub spot : List Link → ℕ → Spot
spot [] w = record { label = w; mark = 0 }
spot (k ∷ ks) w = let s = spot ks w in moved k s

-- an edge links the labels of its ends, so that the marks of its ends agree with it
unfoldable pub joined_by : Rotation → ℕ → Spot → Spot → Link
joined_by R e a b = record { high = max a.label b.label; low = min a.label b.label; shift = (a.mark + b.mark + R.turns (2 * e)) % 2 }

unfoldable pub links : Rotation → List ℕ → List Link
links R [] = []
links R (e ∷ es) = let ks = links R es in joined_by R e (spot ks (R.from (2 * e))) (spot ks (R.from (2 * e + 1))) ∷ ks

-- at the beginning each vertex is its own label
abbrev pub own : ℕ → Spot
own w = record { label = w; mark = 0 }
