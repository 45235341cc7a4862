-- The loop that writes a float path: its pieces so far stand at the front of the two slices.
--     PathRoom                                       a ribbon whose words are in range, and room for its path
--     PieceWritten, wrote_made                       a piece is written to both slices
--     pieces_of, path_length                         the pieces of some steps; the path has one a step, and Close
--     forms_length, floats_length                    how many words and floats some pieces take
--     Laying                                         the loop over the walk
--     laying_none, laying_more, laying_all           it begins, goes on, ends
--     laying_lent, laying_near, laying_room          the present step: its words are there, in range, and there is room
--     laying_forms, laying_coords                    the slices keep their sizes
--     Laid                                           the pieces of all steps are written
--     closing_room, closing_forms, closing_coords    then Close: the path stands at the front of both slices
use Rattle.std.specs.Prelude.{ℕ, suc, ◌+◌, ◌*◌, ◌<◌, ◌≤◌, ◌≡◌, refl, false, ℤ, Float, length, set}
use Rattle.std.proofs.Common.{arith, zero-add, add-one, sym, ◌∙◌, length-append}
use Rattle.std.proofs.Math.Path.{ap}
use mathlib.Core.List.{List, [], ◌∷◌, ◌++◌, map, map-append, flat_map}
use Rattle.std.proofs.lemmas.List.{length-map}
use Rattle.std.proofs.lemmas.List.Edits.{sets}
use Rattle.std.proofs.Math.Seq.{length-sets}
use Rattle.table.specs.Rotation.{rotation}
use Rattle.table.specs.Output.{front}
use Rattle.table.specs.laws.Flat.{flat_append, flat_one, flat_length}
use Rattle.table.specs.laws.Output.{sets_append, sets_front}
use Rattle.tracing.specs.Walk.{walk}
use Rattle.tracing_walks.specs.laws.Along.{Along, along_none, along_more, along_all, along_has, along_stands, along_few}
use Rattle.weave.specs.Ribbon.{some}
use Rattle.floatpath_pieces.specs.declared.piece.Point.{Point}
use Rattle.floatpath_pieces.specs.declared.piece.Piece.{Piece}
use Rattle.floatpath_pieces.specs.declared.piece.Piece.TheVariants.{Close}
use Rattle.weave.proofs.laws.Ribbon.{none_passes}
use Rattle.floatpath_pieces.specs.Path.{piece_on, path_from, form_of, forms_of, point_of, floats_of, far_step}
use Rattle.floatpath_pieces.specs.laws.Places.{Lent}

-- what is written for pieces, one after the other

pub forms_length : (l : List Piece) → length (flat_map forms_of l) ≡ length l
forms_length l = let r = flat_length forms_of 1 (λ p. refl) l in omega arith

pub floats_length : (l : List Piece) → length (flat_map floats_of l) ≡ 3 * length l
floats_length l = flat_length floats_of 3 (λ p. refl) l

-- one piece more
laid_more : {A : Type 0} (f : Piece → List A) (l : List Piece) (p : Piece) (out₀ : List A) {out out' : List A} {at : ℕ} → out ≡ sets out₀ 0 (flat_map f l) → length (flat_map f l) ≡ at
    → out' ≡ sets out at (f p) → out' ≡ sets out₀ 0 (flat_map f (l ++ (p ∷ [])))
laid_more f l p out₀ w e g =
    g ∙ rw (flat_append f l (p ∷ []), flat_one f p, sets_append out₀ 0 (flat_map f l) (f p), zero-add, e, w)

-- a piece, written to both slices
pub record PieceWritten (n : ℕ) (p : Piece) (forms : List ℕ) (coords : List Float) (forms' : List ℕ) (coords' : List Float) : Type 0 where
  pub form : forms' ≡ sets forms n (forms_of p)
  pub floats : coords' ≡ sets coords (3 * n) (floats_of p)

pub wrote_made : {n : ℕ} {p : Piece} {forms : List ℕ} {coords : List Float} {k : ℕ} {q : Point} → k ≡ form_of p → q ≡ point_of p
    → PieceWritten n p forms coords (set forms n k) (set (set (set coords (3 * n) q.x) (3 * n + 1) q.y) (3 * n + 2) q.z)
wrote_made {n} {forms = forms} e f =
    let two : 3 * n + 2 ≡ suc (suc (3 * n)) = omega arith in
    record { form = ap (set forms n) e; floats = rw (f, add-one, two) }

-- a ribbon whose words are in range, and room for its path
pub record PathRoom (t : List ℕ) (points lifts : List ℤ) (s sizeForms sizeCoords : ℕ) : Type 0 where
  pub lent : Lent t points lifts s
  pub near : some (far_step t points lifts) (walk (rotation t) s) ≡ false
  pub forms : length (walk (rotation t) s) < sizeForms
  pub coords : 3 * length (walk (rotation t) s) + 2 < sizeCoords

-- the path has a piece for each step, and Close
pub path_length : (t : List ℕ) (points lifts : List ℤ) (s : ℕ) → length (path_from t points lifts s) ≡ length (walk (rotation t) s) + 1
unfolding path_from
path_length t points lifts s = rw (length-append, length-map)

path_room : {t : List ℕ} {points lifts : List ℤ} {s m c : ℕ} → PathRoom t points lifts s m c
    → (length (flat_map forms_of (path_from t points lifts s)) ≤ m) × (length (flat_map floats_of (path_from t points lifts s)) ≤ c)
path_room {t} {points} {lifts} {s} h =
    let a = h.forms in
    let b = h.coords in
    let l = path_length t points lifts s in
    let d = forms_length (path_from t points lifts s) in
    let e = floats_length (path_from t points lifts s) in
    (omega arith, omega arith)

-- the pieces of these steps
abbrev pub pieces_of : List ℕ → List ℤ → List ℤ → List ℕ → List Piece
pieces_of t points lifts l = map (piece_on t points lifts) l

-- the pieces of a walk's steps, r of them, written
pub record Laid (t : List ℕ) (points lifts : List ℤ) (s : ℕ) (forms₀ : List ℕ) (coords₀ : List Float) (r : ℕ) (forms : List ℕ) (coords : List Float) : Type 0 where
  pub count : r ≡ length (walk (rotation t) s)
  pub forms_laid : forms ≡ sets forms₀ 0 (flat_map forms_of (map (piece_on t points lifts) (walk (rotation t) s)))
  pub coords_laid : coords ≡ sets coords₀ 0 (flat_map floats_of (map (piece_on t points lifts) (walk (rotation t) s)))

-- the loop over the walk
pub record Laying (t : List ℕ) (points lifts : List ℤ) (s : ℕ) (gone left : List ℕ) (n : ℕ) (forms₀ : List ℕ) (coords₀ : List Float) (forms : List ℕ) (coords : List Float) : Type 0 where
  pub along : Along t s gone left
  pub room : PathRoom t points lifts s (length forms₀) (length coords₀)
  pub count : n ≡ length gone
  pub forms_laid : forms ≡ sets forms₀ 0 (flat_map forms_of (pieces_of t points lifts gone))
  pub coords_laid : coords ≡ sets coords₀ 0 (flat_map floats_of (pieces_of t points lifts gone))

pub laying_none : {t : List ℕ} {points lifts : List ℤ} {s : ℕ} {left forms : List ℕ} {coords : List Float} → PathRoom t points lifts s (length forms) (length coords)
    → left ≡ walk (rotation t) s → Laying t points lifts s [] left 0 forms coords forms coords
unfolding flat_map
laying_none k e = record { along = along_none k.lent.stands e; room = k; count = refl; forms_laid = refl; coords_laid = refl }

module _ {t : List ℕ} {points lifts : List ℤ} {s : ℕ} {gone left : List ℕ} {n : ℕ} {forms₀ : List ℕ} {coords₀ : List Float} {forms : List ℕ} {coords : List Float}
    (k : Laying t points lifts s gone left n forms₀ coords₀ forms coords) where
  -- the slices keep their sizes
  pub laying_forms : length forms ≡ length forms₀
  laying_forms = ap length k.forms_laid ∙ length-sets forms₀ 0 (flat_map forms_of (pieces_of t points lifts gone))

  pub laying_coords : length coords ≡ length coords₀
  laying_coords = ap length k.coords_laid ∙ length-sets coords₀ 0 (flat_map floats_of (pieces_of t points lifts gone))

  pub laying_all : left ≡ [] → Laid t points lifts s forms₀ coords₀ n forms coords
  laying_all e =
      let all = along_all k.along e in
      record { count = rw (← all) k.count; forms_laid = rw (← all) k.forms_laid; coords_laid = rw (← all) k.coords_laid }

  pieces_length : length (pieces_of t points lifts gone) ≡ n
  pieces_length = length-map gone (piece_on t points lifts) ∙ sym k.count

  module _ {at : ℕ} {left' : List ℕ} (e : left ≡ at ∷ left') where
    pub laying_lent : Lent t points lifts at
    laying_lent = record { stands = along_stands k.along e; points_size = k.room.lent.points_size; lifts_size = k.room.lent.lifts_size }

    -- a step of the ribbon is in range
    pub laying_near : far_step t points lifts at ≡ false
    laying_near = none_passes (far_step t points lifts) (walk (rotation t) s) at k.room.near (along_has k.along e)

    pub laying_room : (n < length forms) × (3 * n + 2 < length coords)
    laying_room =
        let few = along_few k.along e in
        let count = k.count in
        let a = k.room.forms in
        let b = k.room.coords in
        let c = laying_forms in
        let d = laying_coords in
        (omega arith, omega arith)

    -- a piece more
    pub laying_more : {p : Piece} {forms' : List ℕ} {coords' : List Float} → p ≡ piece_on t points lifts at → PieceWritten n p forms coords forms' coords'
        → Laying t points lifts s (gone ++ at ∷ []) left' (n + 1) forms₀ coords₀ forms' coords'
    laying_more {p} q w =
        let l = pieces_of t points lifts gone in
        let more : l ++ (p ∷ []) ≡ pieces_of t points lifts (gone ++ at ∷ []) = rw q (sym (map-append (piece_on t points lifts) gone (at ∷ []))) in
        record {
          along = along_more k.along e;
          room = k.room;
          count = rw (length-append, k.count) refl;
          forms_laid = rw (← more) (laid_more forms_of l p forms₀ k.forms_laid (forms_length l ∙ pieces_length) w.form);
          coords_laid = rw (← more) (laid_more floats_of l p coords₀ k.coords_laid (floats_length l ∙ ap (λ m. 3 * m) pieces_length) w.floats);
        }

-- "then Close"
module _ {t : List ℕ} {points lifts : List ℤ} {s : ℕ} {forms₀ : List ℕ} {coords₀ : List Float} {r : ℕ} {forms : List ℕ} {coords : List Float}
    (h : PathRoom t points lifts s (length forms₀) (length coords₀))
    (k : Laid t points lifts s forms₀ coords₀ r forms coords) where
  pub closing_room : (r < length forms) × (3 * r + 2 < length coords)
  closing_room =
      let walked = map (piece_on t points lifts) (walk (rotation t) s) in
      let a = h.forms in
      let b = h.coords in
      let c = ap length k.forms_laid ∙ length-sets forms₀ 0 (flat_map forms_of walked) in
      let d = ap length k.coords_laid ∙ length-sets coords₀ 0 (flat_map floats_of walked) in
      let e = k.count in
      (omega arith, omega arith)

  module _ {forms' : List ℕ} {coords' : List Float} (w : PieceWritten r Close forms coords forms' coords') where
    walked_length : length (map (piece_on t points lifts) (walk (rotation t) s)) ≡ r
    walked_length = length-map (walk (rotation t) s) (piece_on t points lifts) ∙ sym k.count

    pub closing_forms : forms' ≡ front (flat_map forms_of (path_from t points lifts s)) forms₀
    unfolding path_from
    closing_forms =
        let walked = map (piece_on t points lifts) (walk (rotation t) s) in
        let room = path_room h in
        laid_more forms_of walked Close forms₀ k.forms_laid (forms_length walked ∙ walked_length) w.form
        ∙ sets_front (flat_map forms_of (walked ++ (Close ∷ []))) forms₀ room.0

    pub closing_coords : coords' ≡ front (flat_map floats_of (path_from t points lifts s)) coords₀
    unfolding path_from
    closing_coords =
        let walked = map (piece_on t points lifts) (walk (rotation t) s) in
        let room = path_room h in
        laid_more floats_of walked Close coords₀ k.coords_laid (floats_length walked ∙ ap (λ m. 3 * m) walked_length) w.floats
        ∙ sets_front (flat_map floats_of (walked ++ (Close ∷ []))) coords₀ room.1
