-- The spots of a whole path are where document 02 has them; on an edge of one turn or none, where the float path has them.
--     spot_here, spot_here_lem  the spot of a piece
--     spot_placed            it is where document 02 has it
--     middle_lifted          on an edge of one turn or none, twice the coordinate and its remainder is the float path's number
--     Whole, whole           a division that rounds down, taken back
--     unlifted_lifted        the lift, taken back
use Rattle.std.specs.Prelude.{ℕ, suc, ◌+◌, ◌-◌, ◌*◌, ◌/◌, ◌%◌, ◌≤◌, ◌<◌, ◌≡◌, refl, Bool, true, false, cond, List, eqb, ℤ, pos, negsuc, neg_ℤ, ◌+ℤ◌, ◌-ℤ◌, ◌*ℤ◌}
use Rattle.std.proofs.Common.{arith, mul-add, mod-lt, sym, ◌∙◌, ap, ap₂}
use Rattle.std.proofs.Math.Nat.{div-add-mod}
use Rattle.std.proofs.Math.IntN.{+ℤ_assoc, +ℤ_comm, +ℤ-neg_ℤ_cancel, -ℤ-+ℤ_cancel, neg_ℤ-+ℤ, suc_ℤ-*ℤ, one, *ℤ-one, *ℤ_comm}
use Rattle.orbits.proofs.laws.Truth.{truth, holds, fails}
use Rattle.table.specs.laws.Signed.{below, above, difference, move, exchange}
use Rattle.weave.specs.Letters.{over, under, word_of}
use Rattle.floatpath_pieces.specs.Path.{first_end, second_end, lift_at, thirty_seconds}
use Rattle.wholepath_pieces.specs.declared.piece.Spot.{Spot}
use Rattle.wholepath_pieces.specs.declared.piece.Piece.TheVariants.{Over, Under, Flat}
use Rattle.wholepath_places.specs.Between.{floored, remainder, share, sits, remains, lifted}
use Rattle.wholepath_pieces.specs.Pieces.{spots_of, crossing_number, letter_on, spot_at, whole_piece_for, whole_piece_on, piece_at, spot_of}
use Rattle.wholepath_pieces.specs.Placed.{unlifted, Placed, SpotPlaced}

-- a division that rounds down, taken back

record Whole (z : ℤ) (m : ℕ) : Type 0 where
  again : pos m *ℤ floored z m +ℤ pos (remainder z m) ≡ z
  low : remainder z m < m

whole : (z : ℤ) (m : ℕ) → 1 ≤ m → Whole z m
unfolding floored remainder
whole (pos k) m h = record { again = ap pos (div-add-mod k m); low = mod-lt k {m = m} h }
whole (negsuc k) m h = record { again = back; low = let low = mod-lt k {m = m} h in omega arith }
  where
    back : pos m *ℤ negsuc (k / m) +ℤ pos (m - 1 - k % m) ≡ negsuc k
    back =
        let e = k / m in
        let f = k % m in
        let low = mod-lt k {m = m} h in
        let again = div-add-mod k m in
        let more : m * suc e ≡ m * e + m = let one : suc e ≡ e + 1 = omega arith in ap (λ x. m * x) one ∙ mul-add m e 1 ∙ omega arith in
        let some : m * suc e ≡ suc (k - f + m - 1) = omega arith in
        ap (λ x. neg_ℤ (pos x) +ℤ pos (m - 1 - f)) some ∙ elim (difference (m - 1 - f) (suc (k - f + m - 1))) [
          | below l d ↦ d ∙ (let same : suc (k - f + m - 1) - suc (m - 1 - f) ≡ k = omega arith in ap negsuc same)
          | above l d ↦ absurd (omega arith)
        ]

-- the lift, taken back
unlifted_lifted : (letter : ℕ) (z l : ℤ) → unlifted letter (lifted letter z l) l ≡ z
unfolding unlifted lifted
unlifted_lifted letter z l = elim (truth (eqb letter over)) [
  | holds e ↦ rw e (+ℤ-neg_ℤ_cancel z l)
  | fails e ↦ elim (truth (eqb letter under)) [
    | holds f ↦ rw (e, f) (-ℤ-+ℤ_cancel z l)
    | fails f ↦ rw (e, f)
  ]
]

placed : (n j letter : ℕ) (a b l : ℤ) → 1 ≤ n → Placed n j letter a b l (lifted letter (sits n j a b) l) (remains n j a b)
unfolding sits remains
placed n j letter a b l h =
    let w = whole (share j a b) (2 * n) (omega arith) in
    let past : unlifted letter (lifted letter (sits n j a b) l) l -ℤ a ≡ floored (share j a b) (2 * n) =
    ap (λ z. z -ℤ a) (unlifted_lifted letter (sits n j a b) l ∙ +ℤ_comm a (floored (share j a b) (2 * n))) ∙ +ℤ-neg_ℤ_cancel (floored (share j a b) (2 * n)) a in
    record { divides = ap (λ z. pos (2 * n) *ℤ z +ℤ pos (remains n j a b)) past ∙ w.again; low = w.low }

-- a piece holds the spot that it is made of
held_spot : (letter : ℕ) (q : Spot) → spot_of (whole_piece_for letter q) ≡ q
unfolding whole_piece_for
held_spot letter q = by (eqb letter over) (eqb letter under)
  where
    by : (a b : Bool) → spot_of (cond a (Over q) (cond b (Under q) (Flat q))) ≡ q
    by true b = refl
    by false true = refl
    by false false = refl

-- the spot of a piece
abbrev pub spot_here : List ℕ → List ℤ → List ℤ → ℕ → ℕ → Spot
spot_here t points lifts s i =
    spot_at (letter_on (word_of t s) (s % 2) i) (spots_of t s) (crossing_number (spots_of t s) (s / 2) i) points lifts (first_end t s) (second_end t s) (lift_at s)

pub spot_here_lem : (t : List ℕ) (points lifts : List ℤ) (s i : ℕ) → spot_of (piece_at t points lifts s i) ≡ spot_here t points lifts s i
unfolding piece_at whole_piece_on
spot_here_lem t points lifts s i = held_spot (letter_on (word_of t s) (s % 2) i) (spot_here t points lifts s i)

pub spot_placed : (t : List ℕ) (points lifts : List ℤ) (s i : ℕ) → i < spots_of t s → SpotPlaced t points lifts s i
unfolding spot_at
spot_placed t points lifts s i h =
    let n = spots_of t s in
    let j = crossing_number n (s / 2) i in
    let letter = letter_on (word_of t s) (s % 2) i in
    let here = spot_here_lem t points lifts s i in
    record { x = rw here (placed n j letter _ _ _ (omega arith)); y = rw here (placed n j letter _ _ _ (omega arith)); z = rw here (placed n j letter _ _ _ (omega arith)) }

-- the middle of an edge, twice

once : (x : ℤ) → pos 1 *ℤ x ≡ x
unfolding one
once x = *ℤ_comm (pos 1) x ∙ *ℤ-one x

twice : (x : ℤ) → pos 2 *ℤ x ≡ x +ℤ x
twice x = suc_ℤ-*ℤ (pos 1) x ∙ ap (λ y. y +ℤ x) (once x)

twice_sum : (x y : ℤ) → pos 2 *ℤ (x +ℤ y) ≡ pos 2 *ℤ x +ℤ pos 2 *ℤ y
twice_sum x y = twice (x +ℤ y) ∙ exchange x y x y ∙ sym (ap₂ ◌+ℤ◌ (twice x) (twice y))

twice_minus : (x : ℤ) → pos 2 *ℤ neg_ℤ x ≡ neg_ℤ (pos 2 *ℤ x)
twice_minus x = twice (neg_ℤ x) ∙ sym (neg_ℤ-+ℤ x x) ∙ ap neg_ℤ (sym (twice x))

-- with its remainder it is a+b
middle : (a b : ℤ) → pos 2 *ℤ sits 1 0 a b +ℤ pos (remains 1 0 a b) ≡ a +ℤ b
unfolding sits remains
middle a b =
    let f = floored (share 0 a b) 2 in
    let r = pos (remainder (share 0 a b) 2) in
    let half : pos 2 *ℤ f +ℤ r ≡ b -ℤ a = (whole (share 0 a b) 2 (omega arith)).again ∙ once (b -ℤ a) in
    ap (λ x. x +ℤ r) (twice_sum a f) ∙ +ℤ_assoc (pos 2 *ℤ a) (pos 2 *ℤ f) r ∙ ap₂ ◌+ℤ◌ (twice a) half
    ∙ +ℤ_assoc a a (b -ℤ a) ∙ ap (λ x. a +ℤ x) (+ℤ_comm a (b -ℤ a) ∙ -ℤ-+ℤ_cancel b a)

-- and with the lift it is what the float path has
pub middle_lifted : (letter : ℕ) (a b l : ℤ) → pos 2 *ℤ lifted letter (sits 1 0 a b) l +ℤ pos (remains 1 0 a b) ≡ thirty_seconds letter a b l
unfolding lifted thirty_seconds
middle_lifted letter a b l = elim (truth (eqb letter over)) [
  | holds e ↦ rw e (risen l)
  | fails e ↦ elim (truth (eqb letter under)) [
    | holds f ↦ rw (e, f) (risen (neg_ℤ l) ∙ ap (λ x. a +ℤ b +ℤ x) (twice_minus l))
    | fails f ↦ rw (e, f) (middle a b)
  ]
]
  where
    risen : (x : ℤ) → pos 2 *ℤ (sits 1 0 a b +ℤ x) +ℤ pos (remains 1 0 a b) ≡ a +ℤ b +ℤ pos 2 *ℤ x
    risen x =
        let r = pos (remains 1 0 a b) in
        let m = pos 2 *ℤ sits 1 0 a b in
        ap (λ y. y +ℤ r) (twice_sum (sits 1 0 a b) x) ∙ move m (pos 2 *ℤ x) r ∙ ap (λ y. y +ℤ pos 2 *ℤ x) (middle a b)
