-- The parts of a mesh, upward by their smallest vertices, document 01, "Counts".
--     parts                the smallest vertices of the parts
--     Together             two vertices are in one part
use Rattle.std.specs.Prelude.{ℕ, zero, suc, ◌≡◌, Bool, true, ◌&&◌, List, [], ◌++◌, eqb}
use Rattle.table.specs.Layout.{vertices}
use Rattle.table.specs.Rotation.{Rotation}
use Rattle.tracing.specs.Listing.{has, only}
use Rattle.surface.specs.Labels.{label, in_part}

-- is r a live vertex and the smallest of its part
unfoldable pub root? : Rotation → ℕ → Bool
root? R r = R.there r && eqb (label R r) r

unfoldable pub parts_below : Rotation → ℕ → List ℕ
parts_below R zero = []
parts_below R (suc r) = parts_below R r ++ only (root? R r) r

-- "part" lines go upward by the smallest vertex
unfoldable pub parts : Rotation → List ℕ
parts R = parts_below R vertices

-- u and v are in one of the listed parts
pub record Together (R : Rotation) (u v : ℕ) : Type 0 where
  pub part : ℕ
  pub listed : has part (parts R) ≡ true
  pub first : in_part R part u ≡ true
  pub second : in_part R part v ≡ true
