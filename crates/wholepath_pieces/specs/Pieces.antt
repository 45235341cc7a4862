-- The pieces of a whole path, document 02, e: those of one step, and what is written for them.
--     whole_path, pieces_along             the pieces of the ribbon through a step, with Close; without it
--     step_pieces, piece_at, whole_piece_on  the pieces of a step; the i-th of them, on the table; on an edge word
--     whole_piece_for, spot_at             the piece for a letter and a spot; three coordinates with their remainders
--     spots_on, spots_of                   how many pieces an edge gives; how many a step gives
--     crossing_number, letter_on           which crossing comes i-th on a step, counted from the first end; its letter
--     whole_form_of, spot_of                the word of a piece; its spot, zeros for Close
--     whole_forms_of, words_of, rests_of    what is written for a piece: its word, its coordinates, its remainders
--     up_to                                 f 0, f 1 and so on, n of them
use Rattle.std.specs.Prelude.{ℕ, zero, suc, ◌+◌, ◌-◌, ◌/◌, ◌%◌, cond, eqb, ℤ, pos, get_or}
use mathlib.Core.List.{List, [], ◌∷◌, ◌++◌, flat_map}
use Rattle.table.specs.Rotation.{rotation}
use Rattle.tracing.specs.Walk.{walk}
use Rattle.weave.specs.Letters.{over, under, unturned, crossings, letters_on, word_of}
use Rattle.floatpath_pieces.specs.Path.{sixteenths, first_end, second_end, lift_at}
use Rattle.wholepath_pieces.specs.declared.piece.Spot.{Spot}
use Rattle.wholepath_pieces.specs.declared.piece.Piece.{Piece}
use Rattle.wholepath_pieces.specs.declared.piece.Piece.TheVariants.{Over, Under, Flat, Close}
use Rattle.wholepath_places.specs.Between.{sits, remains, lifted}

-- how many pieces an edge of word w gives: "one per crossing or flat edge"; "An edge without turns gives one flat point by the same formula with n = 1 and j = 0."
abbrev pub spots_on : ℕ → ℕ
spots_on w = cond (eqb w unturned) 1 (crossings w)

-- those of step s
abbrev pub spots_of : List ℕ → ℕ → ℕ
spots_of t s = spots_on (word_of t s)

-- "crossing j (0 to n-1, counted from the first end)": which of n it is that comes as the i-th along dart d. The even dart leaves the first end.
-- "Travelled from the second end, crossings come in falling j."
abbrev pub crossing_number : ℕ → ℕ → ℕ → ℕ
crossing_number n d i = cond (eqb (d % 2) 0) i (n - 1 - i)

-- the letter of the i-th crossing of a step, as it is travelled, and 0 where there is none
abbrev pub letter_on : ℕ → ℕ → ℕ → ℕ
letter_on w kind i = get_or (letters_on w kind) i 0

-- three coordinates and their remainders: crossing j of n between two ends, from the words at three places
unfoldable pub spot_at : ℕ → ℕ → ℕ → List ℤ → List ℤ → ℕ → ℕ → ℕ → Spot
spot_at letter n j points lifts first second lift = record {
  x = lifted letter (sits n j (sixteenths points first) (sixteenths points second)) (sixteenths lifts lift);
  y = lifted letter (sits n j (sixteenths points (first + 1)) (sixteenths points (second + 1))) (sixteenths lifts (lift + 1));
  z = lifted letter (sits n j (sixteenths points (first + 2)) (sixteenths points (second + 2))) (sixteenths lifts (lift + 2));
  xrest = remains n j (sixteenths points first) (sixteenths points second);
  yrest = remains n j (sixteenths points (first + 1)) (sixteenths points (second + 1));
  zrest = remains n j (sixteenths points (first + 2)) (sixteenths points (second + 2));
}

-- over, under or flat, as the float path has it
unfoldable pub whole_piece_for : ℕ → Spot → Piece
whole_piece_for letter p = cond (eqb letter over) (Over p) (cond (eqb letter under) (Under p) (Flat p))

-- the i-th piece of step s, on an edge of word w
unfoldable pub whole_piece_on : ℕ → ℕ → ℕ → List ℤ → List ℤ → ℕ → ℕ → ℕ → Piece
whole_piece_on w s i points lifts first second lift =
    let n = spots_on w in
    let letter = letter_on w (s % 2) i in
    whole_piece_for letter (spot_at letter n (crossing_number n (s / 2) i) points lifts first second lift)

unfoldable pub piece_at : List ℕ → List ℤ → List ℤ → ℕ → ℕ → Piece
piece_at t points lifts s i = whole_piece_on (word_of t s) s i points lifts (first_end t s) (second_end t s) (lift_at s)

-- f 0, f 1 and so on, n of them
unfoldable pub up_to : {A : Type 0} → (ℕ → A) → ℕ → List A
up_to f zero = []
up_to f (suc n) = up_to f n ++ (f n ∷ [])

-- "Pieces come in the order of travel": those of step s
unfoldable pub step_pieces : List ℕ → List ℤ → List ℤ → ℕ → List Piece
step_pieces t points lifts s = up_to (piece_at t points lifts s) (spots_of t s)

unfoldable pub pieces_along : List ℕ → List ℤ → List ℤ → ℕ → List Piece
pieces_along t points lifts s = flat_map (step_pieces t points lifts) (walk (rotation t) s)

-- "one per crossing or flat edge, then Close"
abbrev pub whole_path : List ℕ → List ℤ → List ℤ → ℕ → List Piece
whole_path t points lifts s = pieces_along t points lifts s ++ (Close ∷ [])

-- "written as the float path is": a word per piece
abbrev pub whole_form_of : Piece → ℕ
whole_form_of (Flat p) = 0
whole_form_of (Over p) = 1
whole_form_of (Under p) = 2
whole_form_of Close = 3

-- "zeros for Close"
abbrev pub spot_of : Piece → Spot
spot_of (Flat p) = p
spot_of (Over p) = p
spot_of (Under p) = p
spot_of Close = record { x = pos 0; y = pos 0; z = pos 0; xrest = 0; yrest = 0; zrest = 0 }

abbrev pub whole_forms_of : Piece → List ℕ
whole_forms_of p = whole_form_of p ∷ []

-- "with three signed 32-bit words in place of the floats"
abbrev pub words_of : Piece → List ℤ
words_of p = let q = spot_of p in q.x ∷ q.y ∷ q.z ∷ []

-- "and in a third slice the three remainders of each piece"
abbrev pub rests_of : Piece → List ℕ
rests_of p = let q = spot_of p in q.xrest ∷ q.yrest ∷ q.zrest ∷ []
