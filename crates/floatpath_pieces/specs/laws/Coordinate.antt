-- One coordinate of a piece: its sums of whole numbers fit the machine's words and the float.
--     NearEnds, near_handed                                  two end coordinates and a lift in range; as the machine has them
--     ends_fit, twice_fits, over_fits, under_fits            a+b, 2l, a+b+2l and a+b-2l fit 32 bits
--     over_small, under_small, flat_small, coordinate_few    what the float is made of is small enough
--     coordinate_over, coordinate_under, coordinate_flat     the coordinate over, under, flat
--     size_fits, handed_is                                   a small number fits, and keeps its value when handed on
--     NearThree, Readable                                    the words of a point are in range; they are there, too
--     read_at, point_made                                    a coordinate from the lent words; the point of three
use Rattle.std.specs.Prelude.{ℕ, ◌+◌, ◌≤◌, ◌<◌, ◌≡◌, ◌≢◌, List, eqb, ℤ, pos, negsuc, neg_ℤ, nat_abs, ◌+ℤ◌, ◌-ℤ◌, ◌*ℤ◌, Float, length}
use Rattle.std.proofs.Common.{arith, ◌∙◌, SFits, to_z-of_z}
use Rattle.std.proofs.Math.Path.{ap}
use Rattle.std.specs.Int.{w32}
use borrow.Author.Tests.{eq-eqb, ne_eqb}
use Rattle.orbits.proofs.laws.Truth.{truth, holds, fails}
use Rattle.table.specs.laws.Signed.{handed, size_sum, size_minus, size_twice}
use Rattle.weave.specs.Letters.{over, under}
use Rattle.floatpath_pieces.specs.Exact.{largest, over32}
use Rattle.floatpath_pieces.specs.Path.{farthest_point, farthest_lift, sixteenths, thirty_seconds, point_at}

pub size_fits : (z : ℤ) → nat_abs z ≤ largest → SFits w32 z
size_fits (pos n) h = record { sfits = omega arith }
size_fits (negsuc n) h = record { sfits = omega arith }

-- "Points lie within 65,536 either way, lifts within 4,096, so nothing is rounded."
pub record NearEnds (a b l : ℤ) : Type 0 where
  pub first : nat_abs a ≤ farthest_point
  pub second : nat_abs b ≤ farthest_point
  pub lift : nat_abs l ≤ farthest_lift

pub handed_is : (z : ℤ) → nat_abs z ≤ largest → handed z ≡ z
handed_is z h = to_z-of_z {w = w32} {z = z} (size_fits z h)

module _ {a b l : ℤ} (n : NearEnds a b l) where
  first_is : handed a ≡ a
  first_is = handed_is a (let f = n.first in omega arith)

  second_is : handed b ≡ b
  second_is = handed_is b (let f = n.second in omega arith)

  lift_is : handed l ≡ l
  lift_is = handed_is l (let f = n.lift in omega arith)

  -- a+b
  ends_few : nat_abs (a +ℤ b) ≤ 131072
  ends_few = let s = size_sum a b in let f = n.first in let g = n.second in omega arith

  pub ends_fit : SFits w32 (handed a +ℤ handed b)
  ends_fit = rw (first_is, second_is) (size_fits (a +ℤ b) (let few = ends_few in omega arith))

  ends_are : handed (handed a +ℤ handed b) ≡ a +ℤ b
  ends_are = to_z-of_z {w = w32} ends_fit ∙ rw (first_is, second_is)

  -- 2l
  twice_few : nat_abs (pos 2 *ℤ l) ≤ 8192
  twice_few = let s = size_twice l in let f = n.lift in omega arith

  pub twice_fits : SFits w32 (pos 2 *ℤ handed l)
  twice_fits = rw lift_is (size_fits (pos 2 *ℤ l) (let few = twice_few in omega arith))

  twice_is : handed (pos 2 *ℤ handed l) ≡ pos 2 *ℤ l
  twice_is = to_z-of_z {w = w32} twice_fits ∙ rw lift_is

  -- a+b+2l
  over_few : nat_abs (a +ℤ b +ℤ pos 2 *ℤ l) ≤ largest
  over_few =
      let s = size_sum (a +ℤ b) (pos 2 *ℤ l) in
      let t = twice_few in
      let few = ends_few in
      omega arith

  pub over_fits : SFits w32 (handed (handed a +ℤ handed b) +ℤ handed (pos 2 *ℤ handed l))
  over_fits = rw (ends_are, twice_is) (size_fits (a +ℤ b +ℤ pos 2 *ℤ l) over_few)

  over_is : handed (handed (handed a +ℤ handed b) +ℤ handed (pos 2 *ℤ handed l)) ≡ a +ℤ b +ℤ pos 2 *ℤ l
  over_is = to_z-of_z {w = w32} over_fits ∙ rw (ends_are, twice_is)

  -- a+b-2l
  under_few : nat_abs (a +ℤ b -ℤ pos 2 *ℤ l) ≤ largest
  under_few =
      let s = size_sum (a +ℤ b) (neg_ℤ (pos 2 *ℤ l)) in
      let m = size_minus (pos 2 *ℤ l) in
      let t = twice_few in
      let few = ends_few in
      omega arith

  pub under_fits : SFits w32 (handed (handed a +ℤ handed b) -ℤ handed (pos 2 *ℤ handed l))
  under_fits = rw (ends_are, twice_is) (size_fits (a +ℤ b -ℤ pos 2 *ℤ l) under_few)

  under_is : handed (handed (handed a +ℤ handed b) -ℤ handed (pos 2 *ℤ handed l)) ≡ a +ℤ b -ℤ pos 2 *ℤ l
  under_is = to_z-of_z {w = w32} under_fits ∙ rw (ends_are, twice_is)

  -- what the float is made of is small enough
  pub over_small : nat_abs (handed (handed (handed a +ℤ handed b) +ℤ handed (pos 2 *ℤ handed l))) ≤ largest
  over_small = rw over_is over_few

  pub under_small : nat_abs (handed (handed (handed a +ℤ handed b) -ℤ handed (pos 2 *ℤ handed l))) ≤ largest
  under_small = rw under_is under_few

  pub flat_small : nat_abs (handed (handed a +ℤ handed b)) ≤ largest
  flat_small = rw ends_are (let few = ends_few in omega arith)

  -- the three ways to pass
  module _ {letter : ℕ} {r : Float} where
    pub coordinate_over : letter ≡ over → r ≡ over32 (handed (handed (handed a +ℤ handed b) +ℤ handed (pos 2 *ℤ handed l))) → r ≡ over32 (thirty_seconds letter a b l)
    unfolding thirty_seconds
    coordinate_over e f = f ∙ ap over32 over_is ∙ rw (eq-eqb letter over e)

    pub coordinate_under : letter ≢ over → letter ≡ under
        → r ≡ over32 (handed (handed (handed a +ℤ handed b) -ℤ handed (pos 2 *ℤ handed l))) → r ≡ over32 (thirty_seconds letter a b l)
    unfolding thirty_seconds
    coordinate_under m e f = f ∙ ap over32 under_is ∙ rw (ne_eqb letter over m, eq-eqb letter under e)

    pub coordinate_flat : letter ≢ over → letter ≢ under → r ≡ over32 (handed (handed a +ℤ handed b)) → r ≡ over32 (thirty_seconds letter a b l)
    unfolding thirty_seconds
    coordinate_flat m e f = f ∙ ap over32 ends_are ∙ rw (ne_eqb letter over m, ne_eqb letter under e)

-- however the strand passes, the number is small
pub coordinate_few : (letter : ℕ) {a b l : ℤ} → NearEnds a b l → nat_abs (thirty_seconds letter a b l) ≤ largest
unfolding thirty_seconds
coordinate_few letter n = elim (truth (eqb letter over)) [
  | holds e ↦ rw e (over_few n)
  | fails e ↦ elim (truth (eqb letter under)) [
    | holds f ↦ rw (e, f) (under_few n)
    | fails f ↦ rw (e, f) (let few = ends_few n in omega arith)
  ]
]

-- a lent word that is handed on keeps its value
pub near_handed : {a b l : ℤ} → NearEnds a b l → NearEnds (handed a) (handed b) (handed l)
near_handed n = rw (first_is n, second_is n, lift_is n) n

coordinate_read : (letter : ℕ) {a b l : ℤ} {r : Float} → NearEnds a b l → r ≡ over32 (thirty_seconds letter (handed a) (handed b) (handed l)) → r ≡ over32 (thirty_seconds letter a b l)
coordinate_read letter n e = e ∙ rw (first_is n, second_is n, lift_is n)

-- the words of a point, which begin at i, j and k, are in range
pub record NearThree (points lifts : List ℤ) (i j k : ℕ) : Type 0 where
  pub near_x : NearEnds (sixteenths points i) (sixteenths points j) (sixteenths lifts k)
  pub near_y : NearEnds (sixteenths points (i + 1)) (sixteenths points (j + 1)) (sixteenths lifts (k + 1))
  pub near_z : NearEnds (sixteenths points (i + 2)) (sixteenths points (j + 2)) (sixteenths lifts (k + 2))

-- they are there, too
pub record Readable (points lifts : List ℤ) (i j k : ℕ) : Type 0 where
  pub first : i + 2 < length points
  pub second : j + 2 < length points
  pub lift : k + 2 < length lifts
  pub near : NearThree points lifts i j k

-- the coordinate at three places, of words as the machine has them
abbrev pub read_at : ℕ → List ℤ → List ℤ → ℕ → ℕ → ℕ → Float
read_at letter points lifts i j k = over32 (thirty_seconds letter (handed (sixteenths points i)) (handed (sixteenths points j)) (handed (sixteenths lifts k)))

pub point_made : (letter : ℕ) {points lifts : List ℤ} {i j k : ℕ} {x y z : Float} → NearThree points lifts i j k → x ≡ read_at letter points lifts i j k
    → y ≡ read_at letter points lifts (i + 1) (j + 1) (k + 1) → z ≡ read_at letter points lifts (i + 2) (j + 2) (k + 2)
    → record { x = x; y = y; z = z } ≡ point_at letter points lifts i j k
unfolding point_at
point_made letter n e f g = rw (coordinate_read letter n.near_x e, coordinate_read letter n.near_y f, coordinate_read letter n.near_z g)
