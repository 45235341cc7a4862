-- What is written of the parts: for each, upward, six signed words: its smallest vertex, V, E, F, V-E+F, and 1 if it is orientable, else 0.
--     row, rows_of          the words of a part; of a list of parts
use Rattle.std.specs.Prelude.{ℕ, Bool, true, false, List, [], ◌∷◌, ◌++◌, ℤ, pos}
use Rattle.table.specs.Rotation.{Rotation}
use Rattle.surface.specs.Labels.{in_part, orientable}
use Rattle.surface.specs.Counts.{vertices_in, edges_in, walks_in}
use Rattle.surface.specs.Parts.{parts_below}
use Rattle.surface.specs.Signed.{euler_of}

abbrev pub flag_of : Bool → ℤ
flag_of true = pos 1
flag_of false = pos 0

-- six words
abbrev pub row_of : ℕ → ℕ → ℕ → ℕ → ℤ → List ℤ
row_of r v e f o = pos r ∷ pos v ∷ pos e ∷ pos f ∷ euler_of v e f ∷ o ∷ []

-- of the part labelled r
unfoldable pub row : Rotation → ℕ → List ℤ
row R r = row_of r (vertices_in R (in_part R r)) (edges_in R (in_part R r)) (walks_in R (in_part R r)) (flag_of (orientable R r))

-- of these parts, one after the other
unfoldable pub rows_of : Rotation → List ℕ → List ℤ
rows_of R [] = []
rows_of R (r ∷ l) = row R r ++ rows_of R l

-- of the parts below n: what stands in the slice while the rows are written
unfoldable pub rows : Rotation → ℕ → List ℤ
rows R n = rows_of R (parts_below R n)
