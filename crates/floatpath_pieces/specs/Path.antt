-- The float path of a ribbon, document 01, "Over and under": its pieces, what is written for them, and what is out of range.
--     path_from, piece_on                        the pieces of the ribbon through a step, with Close; the piece of one step
--     piece_for, point_at                         the piece for a letter and a point; the point between two ends
--     thirty_seconds                             a coordinate times 32
--     letter_of, first_of                         the letter of a step with one turn, 0 without turns
--     sixteenths, first_end, second_end, lift_at  a lent word; where a step's two ends and its lift begin
--     form_of, point_of, positive_zero             the word of a piece; its point; the zero of Close
--     forms_of, floats_of                        what is written for a piece
--     many_turns, far_step, far_three, past      8, more than one turn; 9, out of range: of a step, of three words, of one
--     point_words, lift_words                    the sizes of the lent slices
--     farthest_point, farthest_lift              how far a point and a lift may be
use Rattle.std.specs.Prelude.{ℕ, ◌+◌, ◌*◌, ◌/◌, Bool, false, cond, ◌||◌, List, [], ◌∷◌, ◌++◌, map, eqb, ltb, ℤ, pos, nat_abs, ◌+ℤ◌, ◌-ℤ◌, ◌*ℤ◌, Float, get_or}
use Rattle.std.specs.Float.{fin}
use Rattle.table.specs.Layout.{edge_of, leaves}
use Rattle.table.specs.Rotation.{rotation}
use Rattle.tracing.specs.Walk.{walk}
use Rattle.weave.specs.Letters.{over, under, crossings, word_of, step_letters}
use Rattle.floatpath_pieces.specs.declared.piece.Point.{Point}
use Rattle.floatpath_pieces.specs.declared.piece.Piece.{Piece}
use Rattle.floatpath_pieces.specs.declared.piece.Piece.TheVariants.{Over, Under, Flat, Close}
use Rattle.floatpath_pieces.specs.Exact.{over32}

-- "1,536 points, 3,072 lifts": three words for each vertex, and three for each edge
abbrev pub point_words : ℕ
point_words = 1536

abbrev pub lift_words : ℕ
lift_words = 3072

-- "Points lie within 65,536 either way, lifts within 4,096"
abbrev pub farthest_point : ℕ
farthest_point = 65536

abbrev pub farthest_lift : ℕ
farthest_lift = 4096

-- a lent word, "in sixteenths"
abbrev pub sixteenths : List ℤ → ℕ → ℤ
sixteenths words i = get_or words i (pos 0)

-- "Points are lent as three signed 32-bit words per vertex, lifts as three per edge": where those of step s begin, its edge's two ends and its edge
abbrev pub first_end : List ℕ → ℕ → ℕ
first_end t s = 3 * leaves t (2 * edge_of (s / 2))

abbrev pub second_end : List ℕ → ℕ → ℕ
second_end t s = 3 * leaves t (2 * edge_of (s / 2) + 1)

abbrev pub lift_at : ℕ → ℕ
lift_at s = 3 * edge_of (s / 2)

-- the letter of a step whose edge has one turn, and 0 where it has none
abbrev pub first_of : List ℕ → ℕ
first_of [] = 0
first_of (x ∷ l) = x

abbrev pub letter_of : List ℕ → ℕ → ℕ
letter_of t s = first_of (step_letters t s)

-- "With end coordinates a, b and lift l, a coordinate times 32 is exactly a+b+2l over, a+b-2l under, a+b flat"
unfoldable pub thirty_seconds : ℕ → ℤ → ℤ → ℤ → ℤ
thirty_seconds letter a b l = cond (eqb letter over) (a +ℤ b +ℤ pos 2 *ℤ l) (cond (eqb letter under) (a +ℤ b -ℤ pos 2 *ℤ l) (a +ℤ b))

-- "a point of three 32-bit floats in millimetres": the point between two ends, from the words at three places
unfoldable pub point_at : ℕ → List ℤ → List ℤ → ℕ → ℕ → ℕ → Point
point_at letter points lifts i j k = record {
  x = over32 (thirty_seconds letter (sixteenths points i) (sixteenths points j) (sixteenths lifts k));
  y = over32 (thirty_seconds letter (sixteenths points (i + 1)) (sixteenths points (j + 1)) (sixteenths lifts (k + 1)));
  z = over32 (thirty_seconds letter (sixteenths points (i + 2)) (sixteenths points (j + 2)) (sixteenths lifts (k + 2)));
}

-- "A piece is Over, Under or Flat (no turns) with a point"
unfoldable pub piece_for : ℕ → Point → Piece
piece_for letter p = cond (eqb letter over) (Over p) (cond (eqb letter under) (Under p) (Flat p))

unfoldable pub piece_on : List ℕ → List ℤ → List ℤ → ℕ → Piece
piece_on t points lifts s = let letter = letter_of t s in piece_for letter (point_at letter points lifts (first_end t s) (second_end t s) (lift_at s))

-- "A float path for the ribbon through a step begins there and has one piece per step, then Close."
unfoldable pub path_from : List ℕ → List ℤ → List ℤ → ℕ → List Piece
path_from t points lifts s = map (piece_on t points lifts) (walk (rotation t) s) ++ (Close ∷ [])

-- "a word per piece (0 Flat, 1 Over, 2 Under, 3 Close)"
abbrev pub form_of : Piece → ℕ
form_of (Flat p) = 0
form_of (Over p) = 1
form_of (Under p) = 2
form_of Close = 3

-- "zero is positive zero"
abbrev pub positive_zero : Float
positive_zero = fin false 0 (pos 0)

-- "three floats per piece, zeros for Close"
abbrev pub point_of : Piece → Point
point_of (Flat p) = p
point_of (Over p) = p
point_of (Under p) = p
point_of Close = record { x = positive_zero; y = positive_zero; z = positive_zero }

abbrev pub floats_of : Piece → List Float
floats_of p = let q = point_of p in q.x ∷ q.y ∷ q.z ∷ []

abbrev pub forms_of : Piece → List ℕ
forms_of p = form_of p ∷ []

-- 8, many turns: "an edge on the walk with more than one turn, of either hand"
abbrev pub many_turns : List ℕ → ℕ → Bool
many_turns t s = ltb 1 (crossings (word_of t s))

-- is z farther than that
abbrev pub past : ℕ → ℤ → Bool
past most z = ltb most (nat_abs z)

-- is one of the three words from i on out of range
unfoldable pub far_three : List ℤ → ℕ → ℕ → Bool
far_three words i most = past most (sixteenths words i) || (past most (sixteenths words (i + 1)) || past most (sixteenths words (i + 2)))

-- 9, far: "point or lift out of range on an edge of the walk"
unfoldable pub far_step : List ℕ → List ℤ → List ℤ → ℕ → Bool
far_step t points lifts s = far_three points (first_end t s) farthest_point || (far_three points (second_end t s) farthest_point || far_three lifts (lift_at s) farthest_lift)
