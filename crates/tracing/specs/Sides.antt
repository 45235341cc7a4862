-- How the two sides of an edge lie: on different faces, on one walk by both darts, or by the same dart twice, document 01, "Edits".
use Rattle.std.specs.Prelude.{ℕ, ◌/◌, Bool, true, false, List, [], ◌∷◌, eqb}
use Rattle.table.specs.Rotation.{Rotation}
use Rattle.tracing.specs.declared.meeting.Sides.{Sides}
use Rattle.tracing.specs.declared.meeting.Sides.TheVariants.{TwoFaces, BothDarts, SameDart}
use Rattle.tracing.specs.Walk.{walk}
use Rattle.tracing.specs.Listing.{has}
use Rattle.tracing.specs.Met.{listed_steps, on_edge}

-- the members that pass a test
unfoldable pub keep : (ℕ → Bool) → List ℕ → List ℕ
keep q [] = []
keep q (x ∷ l) = elim (q x) [ true ↦ x ∷ keep q l | false ↦ keep q l ]

-- are two steps on one walk, and by the same dart
unfoldable pub sides_by : Rotation → List ℕ → Sides
sides_by R [] = TwoFaces
sides_by R (s ∷ []) = TwoFaces
sides_by R (s ∷ s' ∷ l) = elim (has s' (walk R s)) [ true ↦ elim (eqb (s / 2) (s' / 2)) [ true ↦ SameDart | false ↦ BothDarts ] | false ↦ TwoFaces ]

-- "the two listed steps on an edge are its sides": "on different faces", "on one walk that passes by both darts", "by the same dart twice"
unfoldable pub sides_of : Rotation → ℕ → Sides
sides_of R e = sides_by R (keep (on_edge e) (listed_steps R))
