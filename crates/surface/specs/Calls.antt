-- What the calls for the counts answer, and what they leave in the slice, document 01, "Counts" and "When a call declines".
--     counts_of            the five words of the mesh;     part_rows     six words for each part, upward
use Rattle.table.specs.Answers.{Answer}
use Rattle.std.specs.Prelude.{ℕ, List, [], ◌∷◌, length, ℤ, pos}
use Rattle.table.specs.Rotation.{Rotation, rotation}
use Rattle.table.specs.Output.{output_answer, output_out}
use Rattle.tracing.specs.Listing.{face_count}
use Rattle.surface.specs.Counts.{vertex_count}
use Rattle.surface.specs.Parts.{parts}
use Rattle.surface.specs.Signed.{mesh_euler}
use Rattle.surface.specs.Rows.{rows_of}
use Rattle.tracing.specs.Met.{edge_count}

abbrev pub five_words : ℕ → ℕ → ℕ → ℕ → ℤ → List ℤ
five_words v e f p x = pos v ∷ pos e ∷ pos f ∷ pos p ∷ x ∷ []

-- "V, E, F are live vertices, live edges, listed walks", the number of connected parts, "The Euler number is V-E+F, signed"
unfoldable pub counts_of : Rotation → List ℤ
counts_of R = five_words (vertex_count R) (edge_count R) (face_count R) (length (parts R)) (mesh_euler R)

abbrev pub counts_answer : List ℕ → ℕ → Answer
counts_answer t n = output_answer t (counts_of (rotation t)) n

abbrev pub counts_out : List ℕ → List ℤ → List ℤ
counts_out t out = output_out t (counts_of (rotation t)) out

-- of each part, upward: smallest vertex, V, E, F, Euler number, and 1 if it is orientable, else 0
abbrev pub part_rows : Rotation → List ℤ
part_rows R = rows_of R (parts R)

abbrev pub parts_answer : List ℕ → ℕ → Answer
parts_answer t n = output_answer t (part_rows (rotation t)) n

abbrev pub parts_out : List ℕ → List ℤ → List ℤ
parts_out t out = output_out t (part_rows (rotation t)) out
