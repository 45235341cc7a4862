-- The piece of a step, as the code makes it.
--     near_step                        the words of a step that is not far are in range
--     letter_none, letter_one          the letter of a step without turns; with one turn
--     for_over, for_under, for_flat    a piece by its letter
--     piece_readable, piece_is         the words of a piece are there and in range; what the code makes is the step's piece
--     zeros                            zeros for Close
use Prim.Native.Nat.{ℕ, suc, ◌+◌, ◌-◌, ◌%◌, ◌≤◌}
use native.Mathlib.Omega.{arith}
use Rattle.std.specs.Prelude.{◌≡◌, refl, Bool, true, false, ◌||◌, List, ◌≢◌, ℤ, nat_abs}
use Rattle.std.proofs.Math.Path.{sym, ap}
use Rattle.std.proofs.Common.{◌∙◌}
use Rattle.std.specs.Float.{binary32}
use Rattle.std.specs.Float.Ieee.{of_bits}
use borrow.Author.Tests.{ltb-false, eq-eqb, ne_eqb}
use Rattle.orbits.proofs.laws.Truth.{clash}
use Rattle.weave.specs.Letters.{over, under, unturned, positive, crossings, letter, crossed, letters_on, step_letters, letter_at}
use Rattle.weave_letters.specs.laws.Crossing.{EdgeWord}
use Rattle.floatpath_pieces.specs.declared.piece.Point.{Point}
use Rattle.floatpath_pieces.specs.declared.piece.Piece.{Piece}
use Rattle.floatpath_pieces.specs.declared.piece.Piece.TheVariants.{Over, Under, Flat, Close}
use Rattle.floatpath_pieces.specs.declared.place.Places.{Places}
use Rattle.floatpath_pieces.specs.Path.{farthest_point, farthest_lift, sixteenths, first_end, second_end, lift_at, letter_of, point_at, piece_for, piece_on, point_of, past, far_three, far_step}
use Rattle.floatpath_pieces.specs.laws.Places.{places_of, Lent, lies}
use Rattle.floatpath_pieces.specs.laws.Coordinate.{NearThree, Readable}

-- none of three
record None (a b d : Bool) : Type 0 where
  first : a ≡ false
  second : b ≡ false
  third : d ≡ false

none : (a b d : Bool) → (a || (b || d)) ≡ false → None a b d
none true b d e = absurd (clash refl e)
none false true d e = absurd (clash refl e)
none false false d e = record { first = refl; second = refl; third = e }

-- three lent words in range
record Three (words : List ℤ) (i most : ℕ) : Type 0 where
  first : nat_abs (sixteenths words i) ≤ most
  second : nat_abs (sixteenths words (i + 1)) ≤ most
  third : nat_abs (sixteenths words (i + 2)) ≤ most

three : (words : List ℤ) (i most : ℕ) → far_three words i most ≡ false → Three words i most
unfolding far_three
three words i most e =
    let n = none (past most (sixteenths words i)) (past most (sixteenths words (i + 1))) (past most (sixteenths words (i + 2))) e in
    record {
      first = ltb-false most (nat_abs (sixteenths words i)) n.first;
      second = ltb-false most (nat_abs (sixteenths words (i + 1))) n.second;
      third = ltb-false most (nat_abs (sixteenths words (i + 2))) n.third;
    }

-- a step whose words are in range
pub near_step : (t : List ℕ) (points lifts : List ℤ) (s : ℕ) → far_step t points lifts s ≡ false → NearThree points lifts (first_end t s) (second_end t s) (lift_at s)
unfolding far_step
near_step t points lifts s e =
    let n = none (far_three points (first_end t s) farthest_point) (far_three points (second_end t s) farthest_point) (far_three lifts (lift_at s) farthest_lift) e in
    let f = three points (first_end t s) farthest_point n.first in
    let g = three points (second_end t s) farthest_point n.second in
    let h = three lifts (lift_at s) farthest_lift n.third in
    record {
      near_x = record { first = f.first; second = g.first; lift = h.first };
      near_y = record { first = f.second; second = g.second; lift = h.second };
      near_z = record { first = f.third; second = g.third; lift = h.third };
    }

-- the letter of a step
module _ {t : List ℕ} {s w : ℕ} (k : EdgeWord t s w) where
  pub letter_none : w ≡ unturned → 0 ≡ letter_of t s
  unfolding step_letters letters_on crossings crossed
  letter_none e = sym (rw (← k.word, e))

  pub letter_one : w ≢ unturned → {r : ℕ} → r ≡ letter_at w (s % 2) 0 → r ≡ letter_of t s
  unfolding step_letters letters_on crossings crossed letter_at
  letter_one n f =
      let some : w - unturned + (unturned - w) ≡ suc (w - unturned + (unturned - w) - 1) = omega arith in
      let type : (s % 2 + 0) % 2 ≡ s % 2 = omega arith in
      f ∙ ap (letter (positive w)) type ∙ sym (rw (← k.word, some))

-- a piece by its letter
module _ (l : ℕ) (q : Point) where
  pub for_over : l ≡ over → Over q ≡ piece_for l q
  unfolding piece_for
  for_over h = rw (eq-eqb l over h)

  pub for_under : l ≢ over → l ≡ under → Under q ≡ piece_for l q
  unfolding piece_for
  for_under n h = rw (ne_eqb l over n, eq-eqb l under h)

  pub for_flat : l ≢ over → l ≢ under → Flat q ≡ piece_for l q
  unfolding piece_for
  for_flat n m = rw (ne_eqb l over n, ne_eqb l under m)

-- the piece of a step
module _ {t : List ℕ} {points lifts : List ℤ} {s : ℕ} {p : Places} (k : Lent t points lifts s) (e : p ≡ places_of t s) where
  pub piece_readable : far_step t points lifts s ≡ false → Readable points lifts p.first p.second p.lift
  unfolding places_of
  piece_readable f = let there = lies k in rw e (record { first = there.first; second = there.second; lift = there.lift; near = near_step t points lifts s f })

  module _ {l : ℕ} {q : Point} (f : l ≡ letter_of t s) (g : q ≡ point_at l points lifts p.first p.second p.lift) where
    pub piece_is : {r : Piece} → r ≡ piece_for l q → r ≡ piece_on t points lifts s
    unfolding piece_on places_of
    piece_is h = h ∙ ap (piece_for l) g ∙ rw (f, e)

-- "zeros for Close"
pub zeros : {p : Piece} → p ≡ Close → record { x = of_bits binary32 0; y = of_bits binary32 0; z = of_bits binary32 0 } ≡ point_of p
unfolding of_bits
zeros e = sym (ap point_of e)
