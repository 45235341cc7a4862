-- Corner words, the face that a corner is on and its type there, document 01, "Corners and walks" and "Counts".
use Rattle.std.specs.Prelude.{ℕ, ◌-◌, ◌*◌, ◌%◌, ◌<◌, ◌≡◌, Bool, true, false, ◌||◌, cond, List, [], ◌∷◌, eqb, ltb}
use Rattle.table.specs.Layout.{vertices, darts, lone_at}
use Rattle.table.specs.Rotation.{Rotation}
use Rattle.tracing.specs.declared.meeting.Meeting.{Meeting}
use Rattle.tracing.specs.declared.meeting.Meeting.TheVariants.{Apart, SameType, OtherType}
use Rattle.tracing.specs.Step.{corner}
use Rattle.tracing.specs.Walk.{walk, corners}
use Rattle.tracing.specs.Listing.{has, lone_corner, starts}

-- a corner that is there
pub data Present (R : Rotation) (c : ℕ) : Type 0 where
  at_dart : c < darts → R.live c ≡ true → Present R c
  at_lone : (v : ℕ) → v < vertices → c ≡ lone_corner v → R.alone v ≡ true → Present R c

-- "named by the dart d that ends it"; "An isolated vertex v has one corner, named 32,768+v. Other corner words are malformed."
unfoldable pub well_formed : ℕ → Bool
well_formed c = ltb c darts || cond (ltb c lone_at) false (ltb (c - lone_at) vertices)

-- is the corner there: its dart is live, or its vertex isolated
unfoldable pub present : Rotation → ℕ → Bool
present R c = cond (ltb c lone_at) (R.live c) (R.alone (c - lone_at))

-- "A corner is on the face whose listed walk meets it": the first of these starts whose walk does
unfoldable pub face_among : Rotation → ℕ → List ℕ → ℕ
face_among R c [] = 0
face_among R c (a ∷ l) = elim (has c (corners R (2 * a))) [ true ↦ a | false ↦ face_among R c l ]

unfoldable pub face_of : Rotation → ℕ → ℕ
face_of R c = elim (ltb c lone_at) [ true ↦ face_among R c (starts R darts) | false ↦ c ]

-- the type of the first of these steps at corner c
unfoldable pub type_among : Rotation → ℕ → List ℕ → ℕ
type_among R c [] = 0
type_among R c (s ∷ l) = elim (eqb (corner R s) c) [ true ↦ s % 2 | false ↦ type_among R c l ]

-- "A corner's type is the t with which its listed walk meets it; for an isolated vertex, 0."
unfoldable pub type_of : Rotation → ℕ → ℕ
type_of R c = elim (ltb c lone_at) [ true ↦ type_among R c (walk R (2 * face_of R c)) | false ↦ 0 ]

abbrev pub meeting_by : Bool → Bool → Meeting
meeting_by true true = SameType
meeting_by true false = OtherType
meeting_by false true = Apart
meeting_by false false = Apart

-- are two corners on one face, and do their types agree
unfoldable pub meeting_of : Rotation → ℕ → ℕ → Meeting
meeting_of R c c' = meeting_by (eqb (face_of R c) (face_of R c')) (eqb (type_of R c) (type_of R c'))
