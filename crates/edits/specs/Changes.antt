-- The change of the face count that each edit's rule calls for, read on the table just before it, document 01, "Edits".
use Rattle.std.specs.Prelude.{ℕ, zero, suc, ◌%◌, List, ℤ, nat_abs}
use Rattle.table.specs.Rotation.{rotation}
use Rattle.tracing.specs.Corner.{meeting_of}
use Rattle.tracing.specs.Sides.{sides_of}
use Rattle.surgery.specs.Change.{Change, less, as_many, more, deletion, turning, insertion}
use Rattle.edits.specs.declared.edit.Edit.{Edit}
use Rattle.edits.specs.declared.edit.Edit.TheVariants.{AddVertex, RemoveVertex, InsertEdge, DeleteEdge, TurnEdge}

-- is a number of turns even or odd
abbrev pub oddness : ℤ → ℕ
oddness k = nat_abs k % 2

-- "An even amount: 0. Odd: different faces, -1; same dart twice, +1; both darts, 0."
abbrev pub turn_change : ℕ → Change → Change
turn_change zero c = as_many
turn_change (suc n) c = c

-- the change that the rules call for
abbrev pub change : List ℕ → Edit → Change
change t (AddVertex v) = more
change t (RemoveVertex v) = less
change t (InsertEdge e c₁ c₂ k n) = insertion (meeting_of (rotation t) c₁ c₂) (oddness k)
change t (DeleteEdge e) = deletion (sides_of (rotation t) e)
change t (TurnEdge e a) = turn_change (oddness a) (turning (sides_of (rotation t) e))
