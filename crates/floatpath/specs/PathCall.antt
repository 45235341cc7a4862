-- What the call for the float path answers, and what it leaves in the two slices, document 01, "When a call declines":
-- "1, 2, 3, 4, 5, 6, 8, 9, with 7 tested after 4".
use Rattle.std.specs.Prelude.{ℕ, ◌+◌, ◌*◌, leb, ℤ, Float, length, not, Ok, Err}
use mathlib.Core.List.{List, flat_map}
use Rattle.table.specs.Rotation.{rotation}
use Rattle.table.specs.declared.answer.Refusal.TheVariants.{ShortSlice, ManyTurns, Far}
use Rattle.tracing.specs.Walk.{walk}
use Rattle.weave.specs.Calls.{named_step, Named}
use Rattle.weave.specs.Ribbon.{some}
use Rattle.floatpath_pieces.specs.Path.{point_words, lift_words, path_from, forms_of, floats_of, many_turns, far_step}
use Rattle.table.specs.Output.{front}
use Rattle.table.specs.Answers.{unless, if_done, Answer}

-- 7, short slice: "1,536 points, 3,072 lifts, .. or the output's exact size"; then 8, many turns, anywhere on the walk; then 9, far, anywhere on it.
-- The path of step s, with m words and c floats for it.
unfoldable pub path_along : List ℕ → List ℤ → List ℤ → ℕ → ℕ → ℕ → Answer
path_along t points lifts m c s =
    let path = path_from t points lifts s in
    let steps = walk (rotation t) s in
    unless (leb point_words (length points)) (Err ShortSlice)
    (unless (leb lift_words (length lifts)) (Err ShortSlice)
    (unless (leb (length (flat_map forms_of path)) m) (Err ShortSlice)
    (unless (leb (length (flat_map floats_of path)) c) (Err ShortSlice)
    (unless (not (some (many_turns t) steps)) (Err ManyTurns)
    (unless (not (some (far_step t points lifts) steps)) (Err Far)
    (Ok (length path)))))))

abbrev pub path_by : List ℕ → List ℤ → List ℤ → ℕ → ℕ → Named → Answer
path_by t points lifts m c (Ok s) = path_along t points lifts m c s
path_by t points lifts m c (Err r) = Err r

-- the number of pieces of the path through the step of dart d and type k
abbrev pub path_answer : List ℕ → ℕ → ℕ → List ℤ → List ℤ → ℕ → ℕ → Answer
path_answer t d k points lifts m c = path_by t points lifts m c (named_step t d k)

-- "Written out it is two lent slices: a word per piece .. and three floats per piece"
abbrev pub forms_out : List ℕ → ℕ → ℕ → List ℤ → List ℤ → List ℕ → List Float → List ℕ
forms_out t d k points lifts forms coords = if_done (path_answer t d k points lifts (length forms) (length coords)) (front (flat_map forms_of (path_from t points lifts (2 * d + k))) forms) forms

abbrev pub coords_out : List ℕ → ℕ → ℕ → List ℤ → List ℤ → List ℕ → List Float → List Float
coords_out t d k points lifts forms coords = if_done (path_answer t d k points lifts (length forms) (length coords)) (front (flat_map floats_of (path_from t points lifts (2 * d + k))) coords) coords
