-- The pieces of a step, as the code makes them.
--     spots_flat, spots_turned, spots_few_lem         how many pieces an edge gives
--     letter_none, letter_there                       their letters
--     number_rising, number_falling, number_low       their order along a dart
--     SpotRead, crossing_read, spot_made              a spot's words are there and in range; it is what the code makes
--     for_over, for_under, for_flat                   a piece by its letter
--     PieceRead, spot_read, piece_is                  the i-th piece of a step
--     zeros                                           zeros for Close
--     up_length, step_length_lem                      how many there are in a list that is made so
--     pieces_total, pieces_most                       the pieces of some steps; of a ribbon, at most 202,752
use Rattle.std.specs.Prelude.{ℕ, zero, suc, ◌+◌, ◌-◌, ◌*◌, ◌/◌, ◌%◌, ◌≤◌, ◌<◌, ◌≡◌, refl, ◌≢◌, eqb, ℤ, pos, length}
use Rattle.std.proofs.Common.{arith, ◌∙◌, length-append}
use Rattle.std.proofs.Math.Path.{sym, ap}
use mathlib.Core.List.{List, [], ◌∷◌, flat_map}
use borrow.Author.Tests.{eq-eqb, ne_eqb}
use Rattle.orbits.proofs.laws.Count.{count_le}
use Rattle.orbits.proofs.laws.Truth.{truth, holds, fails}
use Rattle.table.specs.Layout.{edges}
use Rattle.table.specs.Rotation.{rotation}
use Rattle.table.specs.laws.Lawful.{good_lawful}
use Rattle.table.specs.laws.Signed.{handed}
use Rattle.tracing.specs.Met.{total, edge_count}
use Rattle.tracing.specs.Walk.{walk}
use Rattle.tracing.proofs.laws.Length.{walk_bound}
use Rattle.tracing.proofs.laws.Totals.{total_most}
use Rattle.tracing_walks.specs.laws.Along.{walk_stands}
use Rattle.tracing_walks.specs.laws.Stands.{Stands, stands_low}
use Rattle.weave.specs.Letters.{over, under, unturned, crossings, crossed, letters_on, letter_at, word_of}
use Rattle.weave_letters.specs.laws.Crossing.{edge_read, crossings_few, letters_at}
use Rattle.floatpath_pieces.specs.Path.{sixteenths}
use Rattle.floatpath_pieces.specs.laws.Coordinate.{NearEnds, near_handed, Readable}
use Rattle.wholepath_places.specs.declared.between.Place.{Place}
use Rattle.wholepath_pieces.specs.declared.piece.Spot.{Spot}
use Rattle.wholepath_pieces.specs.declared.piece.Piece.{Piece}
use Rattle.wholepath_pieces.specs.declared.piece.Piece.TheVariants.{Over, Under, Flat, Close}
use Rattle.wholepath_places.specs.Between.{lifted_place}
use Rattle.wholepath_pieces.specs.Pieces.{spots_on, spots_of, crossing_number, letter_on, spot_at, whole_piece_for, whole_piece_on, piece_at, up_to, step_pieces, spot_of}
use Rattle.wholepath_places.specs.laws.Between.{Crossing}
use Rattle.wholepath_places.proofs.laws.Between.{coordinate_word, coordinate_rest}

-- how many pieces there are on an edge
module _ {w : ℕ} where
  pub spots_flat : w ≡ unturned → 1 ≡ spots_on w
  spots_flat e = rw (eq-eqb w unturned e)

  pub spots_turned : w ≢ unturned → {c : ℕ} → c ≡ crossings w → c ≡ spots_on w
  spots_turned n e = rw (ne_eqb w unturned n) e

-- their letters
module _ (w kind i : ℕ) where
  pub letter_none : w ≡ unturned → 0 ≡ letter_on w kind i
  unfolding letters_on crossings crossed
  letter_none e = sym (rw e)

  pub letter_there : w ≢ unturned → kind < 2 → i < spots_on w → {r : ℕ} → r ≡ letter_at w kind i → r ≡ letter_on w kind i
  letter_there n k h e = e ∙ sym (letters_at w kind i k (rw (ne_eqb w unturned n) at h))

-- their order along a dart
module _ (n d i : ℕ) where
  pub number_rising : d % 2 ≡ 0 → i ≡ crossing_number n d i
  number_rising e = rw (eq-eqb (d % 2) 0 e)

  pub number_falling : d % 2 ≢ 0 → n - 1 - i ≡ crossing_number n d i
  number_falling e = rw (ne_eqb (d % 2) 0 e)

pub number_low : (n d i : ℕ) → i < n → crossing_number n d i < n
number_low n d i h = elim (truth (eqb (d % 2) 0)) [
  | holds e ↦ rw e h
  | fails e ↦ rw e (omega arith)
]

-- the words of a spot are there and in range
pub record SpotRead (n j : ℕ) (points lifts : List ℤ) (first second lift : ℕ) : Type 0 where
  pub few : n ≤ 99
  pub among : j < n
  pub words : Readable points lifts first second lift

-- one coordinate of a spot, of words as the machine has them
abbrev read_at : ℕ → ℕ → ℕ → List ℤ → List ℤ → ℕ → ℕ → ℕ → Place
read_at letter n j points lifts first second lift =
    lifted_place letter n j (handed (sixteenths points first)) (handed (sixteenths points second)) (handed (sixteenths lifts lift))

module _ {n j : ℕ} {points lifts : List ℤ} {first second lift : ℕ} (k : SpotRead n j points lifts first second lift) where
  crossing_near : {a b l : ℤ} → NearEnds a b l → Crossing n j a b l
  crossing_near h = record { between = record { few = k.few; among = k.among; first = h.first; second = h.second }; lift = h.lift }

  pub crossing_read : {a b l : ℤ} → NearEnds a b l → Crossing n j (handed a) (handed b) (handed l)
  crossing_read near = crossing_near (near_handed near)

  pub spot_made : (letter : ℕ) {x y z : Place} → x ≡ read_at letter n j points lifts first second lift
      → y ≡ read_at letter n j points lifts (first + 1) (second + 1) (lift + 1) → z ≡ read_at letter n j points lifts (first + 2) (second + 2) (lift + 2)
      → record { x = handed x.word; y = handed y.word; z = handed z.word; xrest = x.rest; yrest = y.rest; zrest = z.rest } ≡ spot_at letter n j points lifts first second lift
  unfolding spot_at
  spot_made letter e f g =
      let near = k.words.near in
      let x = coordinate_word (crossing_near near.near_x) letter e in
      let y = coordinate_word (crossing_near near.near_y) letter f in
      let z = coordinate_word (crossing_near near.near_z) letter g in
      let xrest = coordinate_rest (crossing_near near.near_x) letter e in
      let yrest = coordinate_rest (crossing_near near.near_y) letter f in
      let zrest = coordinate_rest (crossing_near near.near_z) letter g in
      (λ i. record { x = x i; y = y i; z = z i; xrest = xrest i; yrest = yrest i; zrest = zrest i })

-- a piece by its letter
module _ (l : ℕ) (q : Spot) where
  pub for_over : l ≡ over → Over q ≡ whole_piece_for l q
  unfolding whole_piece_for
  for_over h = rw (eq-eqb l over h)

  pub for_under : l ≢ over → l ≡ under → Under q ≡ whole_piece_for l q
  unfolding whole_piece_for
  for_under n h = rw (ne_eqb l over n, eq-eqb l under h)

  pub for_flat : l ≢ over → l ≢ under → Flat q ≡ whole_piece_for l q
  unfolding whole_piece_for
  for_flat n m = rw (ne_eqb l over n, ne_eqb l under m)

-- the i-th piece of a step on an edge of word w: its words are there and in range
pub record PieceRead (w i : ℕ) (points lifts : List ℤ) (first second lift : ℕ) : Type 0 where
  pub few : spots_on w ≤ 99
  pub among : i < spots_on w
  pub words : Readable points lifts first second lift

module _ {w i : ℕ} {points lifts : List ℤ} {first second lift : ℕ} (k : PieceRead w i points lifts first second lift) {n : ℕ} (e : n ≡ spots_on w) where
  piece_among : i < n
  piece_among = rw e k.among

  module _ (s : ℕ) {j : ℕ} (f : j ≡ crossing_number n (s / 2) i) where
    pub spot_read : SpotRead n j points lifts first second lift
    spot_read = record { few = rw e k.few; among = rw f (number_low n (s / 2) i piece_among); words = k.words }

    pub piece_is : {l : ℕ} {q : Spot} {p : Piece} → l ≡ letter_on w (s % 2) i → q ≡ spot_at l n j points lifts first second lift → p ≡ whole_piece_for l q
        → p ≡ whole_piece_on w s i points lifts first second lift
    unfolding whole_piece_on
    piece_is {l} g h m = m ∙ ap (whole_piece_for l) h ∙ rw (g, f, e)

-- "zeros for Close"
pub zeros : {p : Piece} → p ≡ Close → record { x = pos 0; y = pos 0; z = pos 0; xrest = 0; yrest = 0; zrest = 0 } ≡ spot_of p
zeros e = sym (ap spot_of e)

-- lists that are made number by number, and put together

pub up_length : {A : Type 0} (f : ℕ → A) (n : ℕ) → length (up_to f n) ≡ n
unfolding up_to
up_length f zero = refl
up_length f (suc n) = let r = up_length f n in rw length-append (omega arith)

-- the pieces of a step, and of some steps

pub step_length_lem : (t : List ℕ) (points lifts : List ℤ) (s : ℕ) → length (step_pieces t points lifts s) ≡ spots_of t s
unfolding step_pieces
step_length_lem t points lifts s = up_length (piece_at t points lifts s) (spots_of t s)

pub pieces_total : (t : List ℕ) (points lifts : List ℤ) (l : List ℕ) → length (flat_map (step_pieces t points lifts) l) ≡ total (spots_of t) l
unfolding flat_map total
pieces_total t points lifts [] = refl
pieces_total t points lifts (s ∷ l) = let here = step_length_lem t points lifts s in let r = pieces_total t points lifts l in rw length-append (omega arith)

-- at most 99 of them on a live edge
pub spots_few_lem : {t : List ℕ} {s : ℕ} → Stands t s → spots_of t s ≤ 99
spots_few_lem {t} {s} h =
    let e = edge_read h in
    elim (truth (eqb (word_of t s) unturned)) [
      | holds f ↦ rw f (omega arith)
      | fails f ↦ rw f (crossings_few e.some e.most)
    ]

-- a ribbon's steps have at most 202,752 pieces: 2,048 steps with 99 each
pub pieces_most : {t : List ℕ} {s : ℕ} → Stands t s → total (spots_of t) (walk (rotation t) s) ≤ 202752
unfolding edge_count
pieces_most {t} {s} h =
    let R = rotation t in
    let L = good_lawful t h.good in
    let low = stands_low h in
    let few = walk_bound R L s low h.live in
    let all = count_le (λ e. R.live (2 * e)) edges in
    let sum = total_most (spots_of t) 99 (walk R s) (λ x e. spots_few_lem (walk_stands h e)) in
    omega arith
