-- What the call for the whole path answers, and what it leaves in the three slices, document 02, e: "The new path declines with 1, 2, 4, 7 and 9 as
-- the float path does, never with 8." The order is that of document 01.
use Rattle.std.specs.Prelude.{ℕ, ◌+◌, ◌*◌, leb, ℤ, length, not, Ok, Err}
use mathlib.Core.List.{List, flat_map}
use Rattle.table.specs.Rotation.{rotation}
use Rattle.table.specs.declared.answer.Refusal.TheVariants.{ShortSlice, Far}
use Rattle.tracing.specs.Walk.{walk}
use Rattle.weave.specs.Calls.{named_step, Named}
use Rattle.weave.specs.Ribbon.{some}
use Rattle.floatpath_pieces.specs.Path.{point_words, lift_words, far_step}
use Rattle.wholepath_pieces.specs.declared.piece.Piece.{Piece}
use Rattle.wholepath_pieces.specs.Pieces.{whole_forms_of, words_of, rests_of, whole_path}
use Rattle.table.specs.Output.{front}
use Rattle.table.specs.Answers.{unless, if_done, Answer}

-- 7, short slice: points, lifts, or one of the three outputs; then 9, far, anywhere on the walk.
-- The path of step s, with k words, c coordinates and r remainders for it.
unfoldable pub whole_along : List ℕ → List ℤ → List ℤ → ℕ → ℕ → ℕ → ℕ → Answer
whole_along t points lifts k c r s =
    let path = whole_path t points lifts s in
    unless (leb point_words (length points)) (Err ShortSlice)
    (unless (leb lift_words (length lifts)) (Err ShortSlice)
    (unless (leb (length (flat_map whole_forms_of path)) k) (Err ShortSlice)
    (unless (leb (length (flat_map words_of path)) c) (Err ShortSlice)
    (unless (leb (length (flat_map rests_of path)) r) (Err ShortSlice)
    (unless (not (some (far_step t points lifts) (walk (rotation t) s))) (Err Far)
    (Ok (length path)))))))

abbrev pub whole_by : List ℕ → List ℤ → List ℤ → ℕ → ℕ → ℕ → Named → Answer
whole_by t points lifts k c r (Ok s) = whole_along t points lifts k c r s
whole_by t points lifts k c r (Err x) = Err x

-- the number of pieces of the path through the step of dart d and type y
abbrev pub whole_answer : List ℕ → ℕ → ℕ → List ℤ → List ℤ → ℕ → ℕ → ℕ → Answer
whole_answer t d y points lifts k c r = whole_by t points lifts k c r (named_step t d y)

-- what is left in a slice, where f is what is written there for each piece
abbrev pub whole_left : {A : Type 0} → (Piece → List A) → List ℕ → ℕ → ℕ → List ℤ → List ℤ → Answer → List A → List A
whole_left f t d y points lifts a old = if_done a (front (flat_map f (whole_path t points lifts (2 * d + y))) old) old

abbrev pub whole_forms_out : List ℕ → ℕ → ℕ → List ℤ → List ℤ → List ℕ → List ℤ → List ℕ → List ℕ
whole_forms_out t d y points lifts forms coords rests = whole_left whole_forms_of t d y points lifts (whole_answer t d y points lifts (length forms) (length coords) (length rests)) forms

abbrev pub whole_coords_out : List ℕ → ℕ → ℕ → List ℤ → List ℤ → List ℕ → List ℤ → List ℕ → List ℤ
whole_coords_out t d y points lifts forms coords rests = whole_left words_of t d y points lifts (whole_answer t d y points lifts (length forms) (length coords) (length rests)) coords

abbrev pub whole_remainders_out : List ℕ → ℕ → ℕ → List ℤ → List ℤ → List ℕ → List ℤ → List ℕ → List ℕ
whole_remainders_out t d y points lifts forms coords rests = whole_left rests_of t d y points lifts (whole_answer t d y points lifts (length forms) (length coords) (length rests)) rests
