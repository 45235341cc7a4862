-- The listed walks, the listing and the face count, document 01, "Corners and walks" and "Counts".
-- A listed face is named by the corner that its walk starts at: a dart, or 32,768+v for an isolated vertex v.
--     faces, face_count         the listed faces, in their order; F, how many there are
--     listing, walk_text        the words of the listing; those of one walk
--     starts, fresh             the darts that listed walks start at; dart d, if a walk starts there
--     alones, lone              the isolated vertices; vertex v, if it is isolated
--     lone_corner               the corner of an isolated vertex
--     met_by                    the corners that the walks from some darts meet
--     has, gather, only, bit    for lists: is it among them; what f gives for each; x if a test holds; 1 or 0
use Rattle.std.specs.Prelude.{ℕ, zero, suc, ◌+◌, ◌*◌, Bool, true, false, not, cond, List, [], ◌∷◌, ◌++◌, map, eqb, ltb, length}
use Rattle.table.specs.Layout.{vertices, darts, lone_at}
use Rattle.table.specs.Rotation.{Rotation}
use Rattle.tracing.specs.Walk.{walk, corners}

abbrev pub bit : Bool → ℕ
bit true = 1
bit false = 0

-- is c among these
unfoldable pub has : ℕ → List ℕ → Bool
has c [] = false
has c (x ∷ l) = elim (eqb c x) [ true ↦ true | false ↦ has c l ]

-- what f gives for each, one after the other
unfoldable pub gather : (ℕ → List ℕ) → List ℕ → List ℕ
gather f [] = []
gather f (x ∷ l) = f x ++ gather f l

-- x, if the test holds
abbrev pub only : Bool → ℕ → List ℕ
only b x = cond b (x ∷ []) []

-- the corners that the walks from (d, 0) meet, for these darts d
abbrev pub met_by : Rotation → List ℕ → List ℕ
met_by R ds = gather (λ d. corners R (2 * d)) ds

-- "start at (d, 0) wherever corner d has not been met": dart d, if it is live and the walks listed before do not meet its corner
unfoldable pub fresh : Rotation → List ℕ → ℕ → List ℕ
fresh R before d = elim (R.live d) [ true ↦ only (not (has d (met_by R before))) d | false ↦ [] ]

-- "take darts upward": the starts among the darts below n
unfoldable pub starts : Rotation → ℕ → List ℕ
starts R zero = []
starts R (suc d) = let before = starts R d in before ++ fresh R before d

-- vertex v, if it is isolated
unfoldable pub lone : Rotation → ℕ → List ℕ
lone R v = only (R.alone v) v

-- the isolated vertices below n, upward
unfoldable pub alones : Rotation → ℕ → List ℕ
alones R zero = []
alones R (suc v) = alones R v ++ lone R v

-- "An isolated vertex v has one corner, named 32,768+v."
abbrev pub lone_corner : ℕ → ℕ
lone_corner v = lone_at + v

-- the listed faces: the starts, "then each isolated vertex, upward, gives one empty walk"
unfoldable pub faces : Rotation → List ℕ
faces R = starts R darts ++ map lone_corner (alones R vertices)

-- "F: listed walks"
unfoldable pub face_count : Rotation → ℕ
face_count R = length (faces R)

-- "for each walk its number of steps, then 2d+t for each step; an empty walk is 0, then 32,768+v"
unfoldable pub walk_text : Rotation → ℕ → List ℕ
walk_text R c =
    elim (ltb c lone_at) [
      | true ↦ let w = walk R (2 * c) in length w ∷ w
      | false ↦ 0 ∷ c ∷ []
    ]

-- "A listing is written as 16-bit words"
unfoldable pub listing : Rotation → List ℕ
listing R = gather (walk_text R) (faces R)
