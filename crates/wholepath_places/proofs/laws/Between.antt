-- Where a crossing sits: the code's division, of numbers that are not negative, is the one that rounds down.
--     Raised, raised_fits, raised_whole, raised_made                   a coordinate, counted from the lowest
--     Between, remains_low                                             crossing j of n between two points in range; its remainder is small
--     first_raised, second_raised                                      its ends, raised
--     Weights, weights                                                 the bounds of what is divided: n, j and both ends raised
--     first_fits, second_fits, sum_fits, quotient_fits, word_fits      products, sum, quotient and place fit 32 bits
--     product_low, product_fits, rest_fits                             the remainder, by a product; it fits 16 bits
--     place_made                                                       the quotient and the remainder are those of document 02
--     NearLift, farthest_spot                                          a place and a lift in range; as far as a crossing can lie
--     over_fits, under_fits, lifted_over, lifted_under, lifted_flat    the lift added, taken off, or none
--     Crossing, crossing_few                                           crossing j of n with its lift; it is near
--     lift_near, lifted_made, coordinate_word, coordinate_rest         the same of the words as the machine has them
--     Divided, divided                                                 the division that rounds down, whichever end is higher
use Prim.Native.Nat.{ℕ, suc, ◌+◌, ◌-◌, ◌*◌, ◌/◌, ◌%◌, ◌≤◌, ◌<◌}
use native.Mathlib.Omega.{arith}
use Rattle.std.proofs.Common.{mul-le-mul_left, add-mul, div-lt_iff_lt-mul, ◌∙◌, ap₂, SFits, Fits, to_z}
use Rattle.std.proofs.Math.Nat.{mul-add, mul-add-div, mul-add-mod_self_left, div-eq_of_lt, mod-eq_of_lt, mod-lt, div-add-mod, div-le_of_le-mul, mul-div-le, mod_def, mul_comm}
use Rattle.std.specs.Prelude.{◌≡◌, refl, ◌≢◌, eqb, T, ℤ, nat_abs, ◌+ℤ◌, ◌-ℤ◌, ◌*ℤ◌}
use Rattle.std.proofs.Math.Path.{sym, ap}
use Rattle.std.proofs.Math.IntN.{pos, negsuc, neg_ℤ, +ℤ_assoc, +ℤ_comm, +ℤ-neg_ℤ_cancel, -ℤ-+ℤ_cancel, neg_ℤ-+ℤ, neg_ℤ-neg_ℤ}
use Rattle.std.specs.Int.Signed.{non_neg}
use Rattle.std.specs.Int.{w16, w32}
use Rattle.std.proofs.Math.Facts.{to_z-of_z, to_z_pos}
use borrow.Author.Tests.{eq-eqb, ne_eqb}
use Rattle.orbits.proofs.laws.Truth.{truth, holds, fails}
use Rattle.table.specs.laws.Signed.{handed, Difference, below, above, minus_difference, move, size_sum, size_minus}
use Rattle.weave.specs.Letters.{over, under}
use Rattle.floatpath_pieces.specs.Path.{farthest_point}
use Rattle.floatpath_pieces.specs.laws.Coordinate.{size_fits, handed_is}
use Rattle.wholepath_places.specs.declared.between.Place.{Place}
use Rattle.wholepath_places.specs.Between.{floored, remainder, share, sits, remains, place_of, lifted, lifted_place}
use Rattle.wholepath_places.specs.laws.Between.{Raised, Between, NearLift, Crossing}

-- raising it
record NotNegative (z : ℤ) (most : ℕ) : Type 0 where
  size : ℕ
  is : z ≡ pos size
  few : size ≤ most

raise : (a : ℤ) → nat_abs a ≤ farthest_point → NotNegative (a +ℤ pos farthest_point) (2 * farthest_point)
raise (pos n) h = record { size = n + farthest_point; is = refl; few = omega arith }
raise (negsuc n) h = elim (minus_difference farthest_point (suc n)) [
  | below l e ↦ absurd (omega arith)
  | above l e ↦ record { size = farthest_point - suc n; is = e; few = omega arith }
]

module _ (a : ℤ) (h : nat_abs a ≤ farthest_point) where
  first_is : handed a ≡ a
  first_is = handed_is a (omega arith)

  small : nat_abs (a +ℤ pos farthest_point) ≤ 2 * farthest_point
  small = let s = size_sum a (pos farthest_point) in omega arith

  pub raised_fits : SFits w32 (handed a +ℤ pos farthest_point)
  raised_fits = rw first_is (size_fits (a +ℤ pos farthest_point) (let few = small in omega arith))

  raised_is : handed (handed a +ℤ pos farthest_point) ≡ a +ℤ pos farthest_point
  raised_is = to_z-of_z {w = w32} raised_fits ∙ ap (λ z. z +ℤ pos farthest_point) first_is

  pub raised_whole : T (non_neg (handed (handed a +ℤ pos farthest_point))) × Fits w32 (nat_abs (handed (handed a +ℤ pos farthest_point)))
  raised_whole = let r = raise a h in let few = r.few in rw (raised_is, r.is) (tt, record { fits = omega arith })

  pub raised_made : Raised a (nat_abs (handed (handed a +ℤ pos farthest_point)))
  raised_made =
      let r = raise a h in
      rw (raised_is, r.is) (record { is = sym (+ℤ-neg_ℤ_cancel a (pos farthest_point)) ∙ ap (λ z. z -ℤ pos farthest_point) r.is; most = r.few })

-- two numbers that are taken from the same height
apart : (x y f : ℤ) → x -ℤ f -ℤ (y -ℤ f) ≡ x -ℤ y
apart x y f =
    ap (λ z. x -ℤ f +ℤ z) (neg_ℤ-+ℤ y (neg_ℤ f) ∙ ap (λ z. neg_ℤ y +ℤ z) (neg_ℤ-neg_ℤ f) ∙ +ℤ_comm (neg_ℤ y) f)
    ∙ sym (+ℤ_assoc (x -ℤ f) f (neg_ℤ y))
    ∙ ap (λ z. z -ℤ y) (-ℤ-+ℤ_cancel x f)

-- the division: m parts, of which k lie before the crossing
record Divided (m k A B : ℕ) (z : ℤ) : Type 0 where
  quotient : pos A +ℤ floored (pos k *ℤ z) m ≡ pos (((m - k) * A + k * B) / m)
  rest : remainder (pos k *ℤ z) m ≡ ((m - k) * A + k * B) % m

module _ (m k : ℕ) (some : 1 ≤ k) (few : k < m) where
  parts : (A : ℕ) → (m - k) * A + k * A ≡ m * A
  parts A = let all : m - k + k ≡ m = omega arith in sym (add-mul (m - k) k A) ∙ ap (λ x. x * A) all

  -- the second end lies above the first, or level with it
  rising : (A B : ℕ) → A ≤ B → Divided m k A B (pos (B - A))
  unfolding floored remainder
  rising A B h =
      let D = B - A in
      let second : A + D ≡ B = omega arith in
      let split : k * B ≡ k * A + k * D = ap (λ x. k * x) (sym second) ∙ mul-add k A D in
      let all = parts A in
      let sum : m * A + k * D ≡ (m - k) * A + k * B = omega arith in
      record {
        quotient = ap pos (sym (mul-add-div {m = m} (omega arith) A (k * D))) ∙ ap (λ x. pos (x / m)) sum;
        rest = sym (mul-add-mod_self_left m A (k * D)) ∙ ap (λ x. x % m) sum;
      }

  -- it lies below
  falling : (A B : ℕ) → B < A → Divided m k A B (negsuc (A - suc B))
  unfolding floored remainder
  falling A B h =
      let D = suc (A - suc B) in
      let first : B + D ≡ A = omega arith in
      let split : k * A ≡ k * B + k * D = ap (λ x. k * x) (sym first) ∙ mul-add k B D in
      let all = parts A in
      let least : k * D ≡ suc (k * D - 1) = by A B in
      let E = k * D - 1 in
      let e = E / m in
      let f = E % m in
      let under : e < A = (div-lt_iff_lt-mul {k = m} {x = E} {y = A} (omega arith)).1 (let turned = mul_comm A m in omega arith) in
      let q = A - suc e in
      let high : q + suc e ≡ A = omega arith in
      let whole : m * A ≡ m * q + m * suc e = ap (λ x. m * x) (sym high) ∙ mul-add m q (suc e) in
      let more : m * suc e ≡ m * e + m = let one : suc e ≡ e + 1 = omega arith in ap (λ x. m * x) one ∙ mul-add m e 1 ∙ omega arith in
      let again = div-add-mod E m in
      let low = mod-lt E {m = m} (omega arith) in
      let sum : m * q + (m - 1 - f) ≡ (m - k) * A + k * B = omega arith in
      let product : pos k *ℤ negsuc (A - suc B) ≡ negsuc E = ap (λ x. neg_ℤ (pos x)) least in
      record {
        quotient = rw product (elim (minus_difference A (suc e)) [
          | below l d ↦ absurd (omega arith)
          | above l d ↦
              let none = div-eq_of_lt {n = m - 1 - f} {m = m} (omega arith) in
              d ∙ ap pos (sym (mul-add-div {m = m} (omega arith) q (m - 1 - f) ∙ ap (λ x. q + x) none ∙ omega arith)) ∙ ap (λ x. pos (x / m)) sum
        ]);
        rest = rw product (sym (mul-add-mod_self_left m q (m - 1 - f) ∙ mod-eq_of_lt {n = m - 1 - f} {m = m} (omega arith)) ∙ ap (λ x. x % m) sum);
      }
    where
      by : (A B : ℕ) → k * suc (A - suc B) ≡ suc (k * suc (A - suc B) - 1)
      by A B = let product = mul-add k (A - suc B) 1 in let one : A - suc B + 1 ≡ suc (A - suc B) = omega arith in let same = ap (λ x. k * x) one in omega arith

  divided : (A B : ℕ) {z : ℤ} → Difference B A z → Divided m k A B z
  divided A B (below h e) = rw e (falling A B h)
  divided A B (above h e) = rw e (rising A B h)

-- the ends, as the code has raised them
module _ {n j r : ℕ} {a b : ℤ} (k : Between n j a b) where
  pub first_raised : Raised (handed a) r → Raised a r
  first_raised = rw (first_is a k.first) (λ h. h)

  pub second_raised : Raised (handed b) r → Raised b r
  second_raised = rw (first_is b k.second) (λ h. h)

-- what the code divides
abbrev weighed : ℕ → ℕ → ℕ → ℕ → ℕ
weighed n j A B = (2 * n - (2 * j + 1)) * A + (2 * j + 1) * B

-- how large it can be, whichever the two ends are
first_few : {n j A : ℕ} → j < n → A ≤ 2 * farthest_point → (2 * n - (2 * j + 1)) * A ≤ (2 * n - (2 * j + 1)) * 131072
first_few {n} {j} h most = mul-le-mul_left (2 * n - (2 * j + 1)) most

pub first_fits : {n j A : ℕ} {a b x : ℤ} → Between n j a b → Raised x A → Fits w32 ((2 * n - (2 * j + 1)) * A)
first_fits k r = let few = k.few in let most = first_few k.among r.most in record { fits = omega arith }

pub record Weights (n j A B : ℕ) : Type 0 where
  pub few : n ≤ 99
  pub among : j < n
  pub first : A ≤ 2 * farthest_point
  pub second : B ≤ 2 * farthest_point

pub weights : {n j A B : ℕ} {a b x y : ℤ} → Between n j a b → Raised x A → Raised y B → Weights n j A B
weights k r s = record { few = k.few; among = k.among; first = r.most; second = s.most }

module _ {n j A B : ℕ} (k : Weights n j A B) where
  second_few : (2 * j + 1) * B ≤ (2 * j + 1) * 131072
  second_few = mul-le-mul_left (2 * j + 1) k.second

  sum_few : weighed n j A B ≤ 2 * n * 131072
  sum_few = let among = k.among in let f = first_few among k.first in let g = second_few in omega arith

  pub second_fits : Fits w32 ((2 * j + 1) * B)
  second_fits = let few = k.few in let among = k.among in let most = second_few in record { fits = omega arith }

  pub sum_fits : Fits w32 (weighed n j A B)
  sum_fits = let few = k.few in let most = sum_few in record { fits = omega arith }

  quotient_few : weighed n j A B / (2 * n) ≤ 131072
  quotient_few = div-le_of_le-mul (2 * n) sum_few

  pub quotient_fits : SFits w32 (pos (weighed n j A B / (2 * n)))
  quotient_fits = let few = quotient_few in record { sfits = omega arith }

  quotient_is : to_z w32 (weighed n j A B / (2 * n)) ≡ pos (weighed n j A B / (2 * n))
  quotient_is = let few = quotient_few in to_z_pos w32 {n = weighed n j A B / (2 * n)} (omega arith)

  word_few : nat_abs (pos (weighed n j A B / (2 * n)) -ℤ pos farthest_point) ≤ farthest_point
  word_few = let few = quotient_few in elim (minus_difference (weighed n j A B / (2 * n)) farthest_point) [
    | below h e ↦ rw e (omega arith)
    | above h e ↦ rw e (omega arith)
  ]

  pub word_fits : SFits w32 (to_z w32 (weighed n j A B / (2 * n)) -ℤ pos farthest_point)
  word_fits = rw quotient_is (size_fits (pos (weighed n j A B / (2 * n)) -ℤ pos farthest_point) (let few = word_few in omega arith))

  -- the remainder, by a product
  pub product_low : 2 * n * (weighed n j A B / (2 * n)) ≤ weighed n j A B
  product_low = mul-div-le (weighed n j A B) (2 * n)

  pub product_fits : Fits w32 (2 * n * (weighed n j A B / (2 * n)))
  product_fits = let low = product_low in let fits = sum_fits.fits in record { fits = omega arith }

  rest_is : weighed n j A B - 2 * n * (weighed n j A B / (2 * n)) ≡ weighed n j A B % (2 * n)
  rest_is = sym (mod_def (weighed n j A B) (2 * n))

  rest_few : weighed n j A B % (2 * n) < 198
  rest_few = let low = mod-lt (weighed n j A B) {m = 2 * n} (let among = k.among in omega arith) in let few = k.few in omega arith

  pub rest_fits : Fits w16 (weighed n j A B - 2 * n * (weighed n j A B / (2 * n)))
  rest_fits = let few = rest_few in rw rest_is (record { fits = omega arith })

-- of the ends a and b it is document 02's place
module _ {n j A B : ℕ} {a b : ℤ} (k : Between n j a b) (r : Raised a A) (s : Raised b B) where
  difference : b -ℤ a ≡ pos B -ℤ pos A
  difference = ap₂ ◌-ℤ◌ s.is r.is ∙ apart (pos B) (pos A) (pos farthest_point)

  division : Divided (2 * n) (2 * j + 1) A B (b -ℤ a)
  division = let among = k.among in rw difference (divided (2 * n) (2 * j + 1) (omega arith) (omega arith) A B (minus_difference B A))

  sits_is : sits n j a b ≡ pos (weighed n j A B / (2 * n)) -ℤ pos farthest_point
  unfolding sits
  sits_is =
      ap (λ x. x +ℤ floored (share j a b) (2 * n)) r.is
      ∙ move (pos A) (neg_ℤ (pos farthest_point)) (floored (share j a b) (2 * n))
      ∙ ap (λ x. x -ℤ pos farthest_point) division.quotient

  remains_is : remains n j a b ≡ weighed n j A B % (2 * n)
  unfolding remains
  remains_is = division.rest

  -- a crossing lies no farther than the ends can
  sits_near : nat_abs (sits n j a b) ≤ farthest_point
  sits_near = rw sits_is (word_few (weights k r s))

  rest_low : remains n j a b < 198
  rest_low = rw remains_is (rest_few (weights k r s))

  pub place_made : record { word = handed (to_z w32 (weighed n j A B / (2 * n)) -ℤ pos farthest_point); rest = weighed n j A B - 2 * n * (weighed n j A B / (2 * n)) } ≡ place_of n j a b
  unfolding place_of
  place_made =
      let w = weights k r s in
      let word = to_z-of_z {w = w32} (word_fits w) ∙ ap (λ x. x -ℤ pos farthest_point) (quotient_is w) ∙ sym sits_is in
      let rest = rest_is w ∙ sym remains_is in
      (λ i. record { word = word i; rest = rest i })

-- of any two points in range
module _ {n j : ℕ} {a b : ℤ} (k : Between n j a b) where
  sits_low : nat_abs (sits n j a b) ≤ farthest_point
  sits_low = sits_near k (raised_made a k.first) (raised_made b k.second)

  pub remains_low : remains n j a b < 198
  remains_low = rest_low k (raised_made a k.first) (raised_made b k.second)

-- as far as a crossing can lie from zero
abbrev pub farthest_spot : ℕ
farthest_spot = 69632

module _ {z l : ℤ} (k : NearLift z l) where
  place_is : handed z ≡ z
  place_is = handed_is z (let near = k.place in omega arith)

  lift_is : handed l ≡ l
  lift_is = handed_is l (let near = k.lift in omega arith)

  over_few : nat_abs (z +ℤ l) ≤ farthest_spot
  over_few = let s = size_sum z l in let p = k.place in let q = k.lift in omega arith

  under_few : nat_abs (z -ℤ l) ≤ farthest_spot
  under_few = let s = size_sum z (neg_ℤ l) in let m = size_minus l in let p = k.place in let q = k.lift in omega arith

  pub over_fits : SFits w32 (handed z +ℤ handed l)
  over_fits = rw (place_is, lift_is) (size_fits (z +ℤ l) (let few = over_few in omega arith))

  pub under_fits : SFits w32 (handed z -ℤ handed l)
  under_fits = rw (place_is, lift_is) (size_fits (z -ℤ l) (let few = under_few in omega arith))

  -- the three ways to pass
  module _ {letter : ℕ} where
    pub lifted_over : letter ≡ over → handed (handed z +ℤ handed l) ≡ lifted letter z l
    unfolding lifted
    lifted_over e = rw (eq-eqb letter over e) (to_z-of_z {w = w32} over_fits ∙ rw (place_is, lift_is))

    pub lifted_under : letter ≢ over → letter ≡ under → handed (handed z -ℤ handed l) ≡ lifted letter z l
    unfolding lifted
    lifted_under m e = rw (ne_eqb letter over m, eq-eqb letter under e) (to_z-of_z {w = w32} under_fits ∙ rw (place_is, lift_is))

    pub lifted_flat : letter ≢ over → letter ≢ under → handed z ≡ lifted letter z l
    unfolding lifted
    lifted_flat m e = rw (ne_eqb letter over m, ne_eqb letter under e) place_is

  -- however the strand passes, the number is small
  lifted_few : (letter : ℕ) → nat_abs (lifted letter z l) ≤ farthest_spot
  unfolding lifted
  lifted_few letter = elim (truth (eqb letter over)) [
    | holds e ↦ rw e over_few
    | fails e ↦ elim (truth (eqb letter under)) [
      | holds f ↦ rw (e, f) under_few
      | fails f ↦ rw (e, f) (let near = k.place in omega arith)
    ]
  ]

module _ {n j : ℕ} {a b l : ℤ} (k : Crossing n j a b l) where
  near_lift : NearLift (sits n j a b) l
  near_lift = record { place = sits_low k.between; lift = k.lift }

  -- a word that is handed on keeps its value
  sits_handed : handed (sits n j a b) ≡ sits n j a b
  sits_handed = handed_is (sits n j a b) (let low = sits_low k.between in omega arith)

  handed_lift : handed l ≡ l
  handed_lift = handed_is l (let near = k.lift in omega arith)

  pub crossing_few : (letter : ℕ) → nat_abs (lifted letter (sits n j a b) l) ≤ farthest_spot
  crossing_few letter = lifted_few near_lift letter

  lifted_handed : (letter : ℕ) → handed (lifted letter (sits n j a b) l) ≡ lifted letter (sits n j a b) l
  lifted_handed letter = handed_is (lifted letter (sits n j a b) l) (let few = crossing_few letter in omega arith)

  module _ {p : Place} (e : p ≡ place_of n j (handed a) (handed b)) where
    place_at : p ≡ place_of n j a b
    place_at = e ∙ ap₂ (place_of n j) (first_is a k.between.first) (first_is b k.between.second)

    word_at : p.word ≡ sits n j a b
    unfolding place_of
    word_at = ap (λ q. q.word) place_at

    pub lift_near : NearLift (handed p.word) (handed l)
    lift_near = rw (word_at, sits_handed, handed_lift) near_lift

    pub lifted_made : (letter : ℕ) {z : ℤ} → z ≡ lifted letter (handed p.word) (handed l) → record { word = handed z; rest = p.rest } ≡ lifted_place letter n j a b l
    unfolding lifted_place place_of
    lifted_made letter {z} f =
        let raw : z ≡ lifted letter (sits n j a b) l = f ∙ rw (word_at, sits_handed, handed_lift) in
        let word : handed z ≡ lifted letter (sits n j a b) l = ap handed raw ∙ lifted_handed letter in
        let rest : p.rest ≡ remains n j a b = ap (λ q. q.rest) place_at in
        (λ i. record { word = word i; rest = rest i })

  -- the coordinate that is made of words as the machine has them
  module _ (letter : ℕ) {p : Place} (e : p ≡ lifted_place letter n j (handed a) (handed b) (handed l)) where
    coordinate_at : p ≡ lifted_place letter n j a b l
    coordinate_at = e ∙ rw (first_is a k.between.first, first_is b k.between.second, handed_lift)

    pub coordinate_word : handed p.word ≡ lifted letter (sits n j a b) l
    unfolding lifted_place
    coordinate_word = ap (λ q. handed q.word) coordinate_at ∙ lifted_handed letter

    pub coordinate_rest : p.rest ≡ remains n j a b
    unfolding lifted_place
    coordinate_rest = ap (λ q. q.rest) coordinate_at
