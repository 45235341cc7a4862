-- The change of the number of faces by each edit, in document 01's words, read on the table before the edit: "Edits".
--     Change, Changes                 one less, as many, one more; what that says of the numbers before and after
--     deletion, turning, insertion    the document's table of changes
use Rattle.std.specs.Prelude.{◌≡◌, ℕ, zero, suc, ◌*◌, ◌%◌}
use Rattle.tracing.specs.declared.meeting.Sides.{Sides}
use Rattle.tracing.specs.declared.meeting.Sides.TheVariants.{TwoFaces, BothDarts, SameDart}
use Rattle.tracing.specs.declared.meeting.Meeting.{Meeting}
use Rattle.tracing.specs.declared.meeting.Meeting.TheVariants.{Apart, SameType, OtherType}
use Rattle.table.specs.Rotation.{Rotation}

pub data Change : Type 0 where
  less as_many more : Change

-- F faces before, G after
abbrev pub Changes : Change → ℕ → ℕ → Type 0
Changes less F G = F ≡ suc G
Changes as_many F G = G ≡ F
Changes more F G = G ≡ suc F

-- "Its two sides on different faces: -1; on one walk that passes by both darts, +1; by the same dart twice, 0."
abbrev pub deletion : Sides → Change
deletion TwoFaces = less
deletion BothDarts = more
deletion SameDart = as_many

-- "Odd: different faces, -1; same dart twice, +1; both darts, 0."
abbrev pub turning : Sides → Change
turning TwoFaces = less
turning BothDarts = as_many
turning SameDart = more

-- "corners on different faces, -1; on one face, +1 if their types and k add to an even number, else 0": k by its parity
abbrev pub insertion : Meeting → ℕ → Change
insertion Apart k = less
insertion SameType zero = more
insertion SameType (suc k) = as_many
insertion OtherType zero = as_many
insertion OtherType (suc k) = more

-- the parity of the turns of edge e
abbrev pub parity : Rotation → ℕ → ℕ
parity R e = R.turns (2 * e) % 2
