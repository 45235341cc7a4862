-- The Euler number, signed, document 01, "Counts": "The Euler number is V-E+F, signed, for each connected part and for the mesh."
--     euler_of             V-E+F;     part_euler, mesh_euler     of a part and of the mesh
--     PartLaws             at most 2, even if the part is orientable, at most 1 if not
--     total_ℤ              the sum over a list
use Rattle.std.specs.Prelude.{ℕ, ◌%◌, ◌≡◌, List, [], ◌∷◌, ℤ, pos, nat_abs, ◌+ℤ◌, ◌-ℤ◌, ◌≤ℤ◌}
use Rattle.table.specs.Rotation.{Rotation}
use Rattle.tracing.specs.Listing.{face_count}
use Rattle.surface.specs.Labels.{in_part}
use Rattle.surface.specs.Chain.{Orientable}
use Rattle.surface.specs.Counts.{vertex_count, vertices_in, edges_in, walks_in}
use Rattle.tracing.specs.Met.{edge_count}

-- V-E+F
unfoldable pub euler_of : ℕ → ℕ → ℕ → ℤ
euler_of v e f = pos v -ℤ pos e +ℤ pos f

-- of the part labelled r
unfoldable pub part_euler : Rotation → ℕ → ℤ
part_euler R r = euler_of (vertices_in R (in_part R r)) (edges_in R (in_part R r)) (walks_in R (in_part R r))

unfoldable pub mesh_euler : Rotation → ℤ
mesh_euler R = euler_of (vertex_count R) (edge_count R) (face_count R)

-- "in each part V-E+F is at most 2, even if orientable, at most 1 if not"
pub record PartLaws (R : Rotation) (r : ℕ) : Type 0 where
  pub at_most_two : part_euler R r ≤ℤ pos 2
  pub even : Orientable R (in_part R r) → nat_abs (part_euler R r) % 2 ≡ 0
  pub at_most_one : ¬ Orientable R (in_part R r) → part_euler R r ≤ℤ pos 1

-- the mesh's is the sum

unfoldable pub total_ℤ : (ℕ → ℤ) → List ℕ → ℤ
total_ℤ f [] = pos 0
total_ℤ f (x ∷ l) = f x +ℤ total_ℤ f l
