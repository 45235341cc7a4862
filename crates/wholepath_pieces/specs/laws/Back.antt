-- "Travelled from the second end, crossings come in falling j": the way back along an edge gives the same pieces in reverse order,
-- and so does the ribbon in the other sense.
--     pieces_back                              the pieces of the way back along an edge
--     pieces_mirror                            the pieces of the ribbon in the other sense
--     same_edge                                a step and its way back are on one edge
--     number_back, letter_back, piece_back     the crossings counted from the other end; their letters; their pieces
--     up_first, up_same, up_reverse            f 0, f 1 and so on, from the other end
use Prim.Native.Nat.{ℕ, zero, suc, ◌+◌, ◌-◌, ◌/◌, ◌%◌, ◌<◌}
use native.Mathlib.Omega.{arith}
use Rattle.std.proofs.Math.Decide.{ℕ_discrete}
use Rattle.std.specs.Prelude.{◌≡◌, ℤ}
use Rattle.std.proofs.Math.Path.{refl, sym, ap, ap₂}
use Rattle.std.proofs.Common.{◌∙◌, ne_eqb}
use mathlib.Core.List.{List, [], ◌∷◌, ◌++◌, map, flat_map, reverse, reverse-cons, reverse-append}
use Rattle.table.specs.Layout.{edge_of, edge_word, rev}
use Rattle.table.specs.Good.{Good}
use Rattle.table.specs.Rotation.{Rotation, rotation, turns_of}
use Rattle.table.specs.laws.Lawful.{good_lawful, rev_edge}
use Rattle.tracing.specs.Step.{steps, step_type, mirror, back}
use Rattle.tracing.specs.Walk.{walk}
use Rattle.tracing.proofs.laws.Step.{back_dart, back_type, type?, is_zero, is_one}
use Rattle.tracing.proofs.laws.Back.{walk_mirror}
use Rattle.weave.specs.Letters.{unturned, positive, crossings, letter, letter_at, word_of}
use Rattle.weave.proofs.laws.Ribbon.{crossings_parity}
use Rattle.weave_letters.specs.laws.Crossing.{letters_at}
use Rattle.wholepath_pieces.specs.Pieces.{spots_on, spots_of, crossing_number, letter_on, whole_piece_on, piece_at, up_to, step_pieces, pieces_along}
use Rattle.table.specs.laws.Flat.{flat_append, flat_one}
use Rattle.wholepath_pieces.specs.laws.Pieces.{letter_none, number_rising, number_falling}

-- the same numbers, from the other end

module _ {A : Type 0} where
  up_first : (f : ℕ → A) (n : ℕ) → up_to f (suc n) ≡ f 0 ∷ up_to (λ i. f (suc i)) n
  unfolding up_to
  up_first f zero = refl
  up_first f (suc n) = ap (λ l. l ++ (f (suc n) ∷ [])) (up_first f n)

  up_same : (f g : ℕ → A) (n : ℕ) → ((i : ℕ) → i < n → f i ≡ g i) → up_to f n ≡ up_to g n
  unfolding up_to
  up_same f g zero e = refl
  up_same f g (suc n) e = ap₂ (λ l x. l ++ (x ∷ [])) (up_same f g n (λ i h. e i (omega arith))) (e n (omega arith))

  up_reverse : (f : ℕ → A) (n : ℕ) → reverse (up_to f n) ≡ up_to (λ i. f (n - 1 - i)) n
  unfolding up_to
  up_reverse f zero = refl
  up_reverse f (suc n) =
      ap reverse (up_first f n) ∙ reverse-cons (f 0) (up_to (λ i. f (suc i)) n)
      ∙ ap₂ (λ l x. l ++ (x ∷ []))
      (up_reverse (λ i. f (suc i)) n ∙ up_same (λ i. f (suc (n - 1 - i))) (λ i. f (suc n - 1 - i)) n (λ i h. let same : suc (n - 1 - i) ≡ suc n - 1 - i = omega arith in ap f same))
      (let first : 0 ≡ suc n - 1 - n = omega arith in ap f first)

-- the way back counts the crossings the other way
number_back : (n d i : ℕ) → i < n → crossing_number n (rev d) i ≡ crossing_number n d (n - 1 - i)
number_back n d i h = elim (type? d) [
  | is_zero e ↦ sym (number_falling n (rev d) i (omega arith)) ∙ number_rising n d (n - 1 - i) e
  | is_one e ↦ sym (number_rising n (rev d) i (omega arith)) ∙ (let same : i ≡ n - 1 - (n - 1 - i) = omega arith in same) ∙ number_falling n d (n - 1 - i) (omega arith)
]

type_back : (s i m : ℕ) → (1 - (s + (i + m + 1)) % 2 + i) % 2 ≡ (s % 2 + m) % 2
type_back s i m = elim (type? (s + (i + m + 1))) [
  | is_zero z ↦ rw z (omega arith)
  | is_one z ↦ rw z (omega arith)
]

-- "over and under as they are": it begins with the other type than that which the step comes to
letter_back : (w s i : ℕ) → i < spots_on w → letter_on w (1 - (s + w) % 2) i ≡ letter_on w (s % 2) (spots_on w - 1 - i)
unfolding letter_at
letter_back w s i h = elim (ℕ_discrete w unturned) [
  | yes e ↦ sym (letter_none w (1 - (s + w) % 2) i e) ∙ letter_none w (s % 2) (spots_on w - 1 - i) e
  | no e ↦
      let n : spots_on w ≡ crossings w = rw (ne_eqb w unturned e) in
      let m = spots_on w - 1 - i in
      let all : i + m + 1 ≡ crossings w = omega arith in
      let type = ap (λ k. (1 - k + i) % 2) (crossings_parity w s ∙ ap (λ c. (s + c) % 2) (sym all)) ∙ type_back s i m in
      letters_at w (1 - (s + w) % 2) i (omega arith) (omega arith) ∙ ap (letter (positive w)) type ∙ sym (letters_at w (s % 2) m (omega arith) (omega arith))
]

-- a step and the way back are on one edge
pub same_edge : (R : Rotation) (s : ℕ) → edge_of (back R s / 2) ≡ edge_of (s / 2)
same_edge R s = rw (back_dart R s) (rev_edge (s / 2))

module _ (t : List ℕ) (points lifts : List ℤ) where
  abbrev R : Rotation
  R = rotation t

  piece_back : (s i : ℕ) → i < spots_of t s → piece_at t points lifts (back R s) i ≡ piece_at t points lifts s (spots_of t s - 1 - i)
  unfolding piece_at whole_piece_on step_type turns_of
  piece_back s i h =
      let n = spots_of t s in
      rw (same_edge R s, back_dart R s, back_type R s, letter_back (word_of t s) s i h, number_back n (s / 2) i h)

  pub pieces_back : (s : ℕ) → step_pieces t points lifts (back R s) ≡ reverse (step_pieces t points lifts s)
  unfolding step_pieces
  pieces_back s =
      let n = spots_of t s in
      ap (λ e. up_to (piece_at t points lifts (back R s)) (spots_on (edge_word t e))) (same_edge R s)
      ∙ up_same (piece_at t points lifts (back R s)) (λ i. piece_at t points lifts s (n - 1 - i)) n (piece_back s)
      ∙ sym (up_reverse (piece_at t points lifts s) n)

  pieces_reverse : (l : List ℕ) → flat_map (step_pieces t points lifts) (reverse (map (back R) l)) ≡ reverse (flat_map (step_pieces t points lifts) l)
  unfolding flat_map
  pieces_reverse [] = refl
  pieces_reverse (s ∷ l) =
      let f = step_pieces t points lifts in
      ap (flat_map f) (reverse-cons (back R s) (map (back R) l))
      ∙ flat_append f (reverse (map (back R) l)) (back R s ∷ [])
      ∙ ap₂ ◌++◌ (pieces_reverse l) (flat_one f (back R s) ∙ pieces_back s)
      ∙ sym (reverse-append (f s) (flat_map f l))

  pub pieces_mirror : Good t → (s : ℕ) → s < steps → pieces_along t points lifts (mirror R s) ≡ reverse (pieces_along t points lifts s)
  unfolding pieces_along
  pieces_mirror g s h = ap (flat_map (step_pieces t points lifts)) (walk_mirror R (good_lawful t g) s h) ∙ pieces_reverse (walk R s)
