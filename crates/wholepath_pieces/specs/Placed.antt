-- What holds of the spots of a whole path, document 02, e.
use Rattle.std.specs.Prelude.{ℕ, ◌+◌, ◌*◌, ◌/◌, ◌%◌, ◌<◌, cond, ◌≡◌, List, eqb, ℤ, pos, ◌+ℤ◌, ◌-ℤ◌, ◌*ℤ◌}
use Rattle.weave.specs.Letters.{over, under, word_of}
use Rattle.floatpath_pieces.specs.Path.{sixteenths, first_end, second_end, lift_at}
use Rattle.wholepath_pieces.specs.Pieces.{spots_of, crossing_number, letter_on, piece_at, spot_of}

-- a coordinate without its lift: less it over, plus it under
unfoldable pub unlifted : ℕ → ℤ → ℤ → ℤ
unlifted letter z l = cond (eqb letter over) (z -ℤ l) (cond (eqb letter under) (z +ℤ l) z)

-- crossing j of n between ends a and b is at this word, with this remainder: 2n times what it lies past a, and the remainder, is (2j+1)(b-a)
pub record Placed (n j letter : ℕ) (a b l word : ℤ) (rest : ℕ) : Type 0 where
  pub divides : pos (2 * n) *ℤ (unlifted letter word l -ℤ a) +ℤ pos rest ≡ pos (2 * j + 1) *ℤ (b -ℤ a)
  pub low : rest < 2 * n

-- the crossing that the i-th piece of step s is at, and its letter
abbrev pub crossing_here : List ℕ → ℕ → ℕ → ℕ
crossing_here t s i = crossing_number (spots_of t s) (s / 2) i

abbrev pub letter_here : List ℕ → ℕ → ℕ → ℕ
letter_here t s i = letter_on (word_of t s) (s % 2) i

-- the i-th piece of step s is where document 02 has it
pub record SpotPlaced (t : List ℕ) (points lifts : List ℤ) (s i : ℕ) : Type 0 where
  pub x : Placed (spots_of t s) (crossing_here t s i) (letter_here t s i) (sixteenths points (first_end t s)) (sixteenths points (second_end t s)) (sixteenths lifts (lift_at s))
      (spot_of (piece_at t points lifts s i)).x (spot_of (piece_at t points lifts s i)).xrest
  pub y : Placed (spots_of t s) (crossing_here t s i) (letter_here t s i) (sixteenths points (first_end t s + 1)) (sixteenths points (second_end t s + 1)) (sixteenths lifts (lift_at s + 1))
      (spot_of (piece_at t points lifts s i)).y (spot_of (piece_at t points lifts s i)).yrest
  pub z : Placed (spots_of t s) (crossing_here t s i) (letter_here t s i) (sixteenths points (first_end t s + 2)) (sixteenths points (second_end t s + 2)) (sixteenths lifts (lift_at s + 2))
      (spot_of (piece_at t points lifts s i)).z (spot_of (piece_at t points lifts s i)).zrest
