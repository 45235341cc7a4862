-- Pieces written one after the other to three slices.
--     Out, out                                     the three slices
--     Room, room_kept                              room for n pieces
--     Written                                      some pieces stand in the slices from piece `start` on, all else is as it was
--     written_none, written_join, written_sizes    no piece; pieces after pieces; the slices keep their sizes
--     SameSizes                                    the slices have the sizes of before
--     forms_length, words_length, rests_length     how many words some pieces take in each slice
--     forms_front, coords_front, rests_front       all that is written stands at the front
--     Machine, piece_written                       the words of a spot fit; one piece is written
use Rattle.std.specs.Prelude.{ℕ, suc, ◌+◌, ◌*◌, ◌≤◌, ◌<◌, ◌^◌, ◌≡◌, refl, ℤ, length, set}
use Rattle.std.proofs.Common.{arith, add-one, ◌∙◌, ap, to_z-of_z}
use mathlib.Core.List.{List, [], ◌∷◌, ◌++◌, flat_map}
use Rattle.std.proofs.lemmas.List.Edits.{sets}
use Rattle.std.proofs.Math.Seq.{length-sets}
use Rattle.std.specs.Int.Signed.{mag}
use Rattle.std.specs.Int.{w32}
use Rattle.table.specs.Output.{front}
use Rattle.table.specs.laws.Output.{sets_append, sets_front}
use Rattle.table.specs.laws.Signed.{handed}
use Rattle.wholepath_pieces.specs.declared.piece.Spot.{Spot}
use Rattle.wholepath_pieces.specs.declared.piece.Piece.{Piece}
use Rattle.wholepath_pieces.specs.Pieces.{whole_form_of, spot_of, whole_forms_of, words_of, rests_of}
use Rattle.table.specs.laws.Flat.{flat_append, flat_one, flat_length}

-- the three slices
pub record Out : Type 0 where
  pub forms : List ℕ
  pub coords : List ℤ
  pub rests : List ℕ

abbrev pub out : List ℕ → List ℤ → List ℕ → Out
out k c r = record { forms = k; coords = c; rests = r }

-- what is written for n pieces has so many words

pub forms_length : (l : List Piece) → length (flat_map whole_forms_of l) ≡ length l
forms_length l = let r = flat_length whole_forms_of 1 (λ p. refl) l in omega arith

pub words_length : (l : List Piece) → length (flat_map words_of l) ≡ 3 * length l
words_length l = flat_length words_of 3 (λ p. refl) l

pub rests_length : (l : List Piece) → length (flat_map rests_of l) ≡ 3 * length l
rests_length l = flat_length rests_of 3 (λ p. refl) l

-- room for n pieces
pub record Room (n : ℕ) (o : Out) : Type 0 where
  pub forms : n ≤ length o.forms
  pub coords : 3 * n ≤ length o.coords
  pub rests : 3 * n ≤ length o.rests

-- the pieces of l stand in the slices from piece `start` on; all else is as it was
pub record Written (l : List Piece) (start : ℕ) (o o' : Out) : Type 0 where
  pub forms : o'.forms ≡ sets o.forms start (flat_map whole_forms_of l)
  pub coords : o'.coords ≡ sets o.coords (3 * start) (flat_map words_of l)
  pub rests : o'.rests ≡ sets o.rests (3 * start) (flat_map rests_of l)

pub written_none : (start : ℕ) (o : Out) → Written [] start o o
unfolding flat_map
written_none start o = record { forms = refl; coords = refl; rests = refl }

-- one part after the other
part_join : {A : Type 0} (f : Piece → List A) (a b : List Piece) (start : ℕ) (old : List A) {at : ℕ} {new last : List A}
    → new ≡ sets old start (flat_map f a) → at ≡ start + length (flat_map f a) → last ≡ sets new at (flat_map f b) → last ≡ sets old start (flat_map f (a ++ b))
part_join f a b start old e g h = h ∙ rw (flat_append f a b, sets_append old start (flat_map f a) (flat_map f b), e, g)

pub written_join : {a b : List Piece} {start at : ℕ} {o o' o'' : Out} → Written a start o o' → at ≡ start + length a → Written b at o' o'' → Written (a ++ b) start o o''
written_join {a} {b} {start} {o = o} v e w =
    let k = forms_length a in
    let c = words_length a in
    let r = rests_length a in
    record {
      forms = part_join whole_forms_of a b start o.forms v.forms (omega arith) w.forms;
      coords = part_join words_of a b (3 * start) o.coords v.coords (omega arith) w.coords;
      rests = part_join rests_of a b (3 * start) o.rests v.rests (omega arith) w.rests;
    }

-- the slices keep their sizes
pub record SameSizes (o o' : Out) : Type 0 where
  pub forms : length o'.forms ≡ length o.forms
  pub coords : length o'.coords ≡ length o.coords
  pub rests : length o'.rests ≡ length o.rests

pub written_sizes : {l : List Piece} {start : ℕ} {o o' : Out} → Written l start o o' → SameSizes o o'
written_sizes {l} {start} {o} w = record {
  forms = ap length w.forms ∙ length-sets o.forms start (flat_map whole_forms_of l);
  coords = ap length w.coords ∙ length-sets o.coords (3 * start) (flat_map words_of l);
  rests = ap length w.rests ∙ length-sets o.rests (3 * start) (flat_map rests_of l);
}

pub room_kept : {n m : ℕ} {o o' : Out} → Room n o → SameSizes o o' → m ≤ n → Room m o'
room_kept r s h =
    let a = r.forms in
    let b = r.coords in
    let c = r.rests in
    let d = s.forms in
    let e = s.coords in
    let f = s.rests in
    record { forms = omega arith; coords = omega arith; rests = omega arith }

-- all that is written, at the front
module _ {l : List Piece} {o o' : Out} (r : Room (length l) o) (w : Written l 0 o o') where
  pub forms_front : o'.forms ≡ front (flat_map whole_forms_of l) o.forms
  forms_front = w.forms ∙ sets_front (flat_map whole_forms_of l) o.forms (let n = forms_length l in let room = r.forms in omega arith)

  pub coords_front : o'.coords ≡ front (flat_map words_of l) o.coords
  coords_front = w.coords ∙ sets_front (flat_map words_of l) o.coords (let n = words_length l in let room = r.coords in omega arith)

  pub rests_front : o'.rests ≡ front (flat_map rests_of l) o.rests
  rests_front = w.rests ∙ sets_front (flat_map rests_of l) o.rests (let n = rests_length l in let room = r.rests in omega arith)

-- the words of a spot, as the machine has them
pub record Machine (q : Spot) : Type 0 where
  pub x : mag q.x < 2 ^ 31
  pub y : mag q.y < 2 ^ 31
  pub z : mag q.z < 2 ^ 31

-- one piece
pub piece_written : {n : ℕ} {p : Piece} {forms : List ℕ} {coords : List ℤ} {rests : List ℕ} {k : ℕ} {q : Spot} → k ≡ whole_form_of p → q ≡ spot_of p → Machine q
    → Written (p ∷ []) n (out forms coords rests)
    (out (set forms n k)
    (set (set (set coords (3 * n) (handed q.x)) (3 * n + 1) (handed q.y)) (3 * n + 2) (handed q.z))
    (set (set (set rests (3 * n) q.xrest) (3 * n + 1) q.yrest) (3 * n + 2) q.zrest))
piece_written {n} {p} {forms} {q = q} e f m =
    let two : 3 * n + 2 ≡ suc (suc (3 * n)) = omega arith in
    let x = to_z-of_z {w = w32} {z = q.x} (record { sfits = m.x }) in
    let y = to_z-of_z {w = w32} {z = q.y} (record { sfits = m.y }) in
    let z = to_z-of_z {w = w32} {z = q.z} (record { sfits = m.z }) in
    record {
      forms = rw (flat_one whole_forms_of p) (ap (set forms n) e);
      coords = rw (flat_one words_of p, x, y, z, f, add-one, two);
      rests = rw (flat_one rests_of p, f, add-one, two);
    }
