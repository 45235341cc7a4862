-- The loops that write a whole path: the pieces of one step, and of the walk's steps so far.
--     StepRoom, Stepped                                              room for the pieces of one step; they are written
--     Stepping                                                       the loop over them
--     stepping_none, stepping_more, stepping_all                     it begins, goes on, ends
--     stepping_few, stepping_piece, stepping_room, stepping_sizes    few pieces, readable words, room; the slices' sizes
--     PathRoom, Laid                                                 room for the path of a ribbon; the pieces of its steps are written
--     Laying                                                         the loop over the walk
--     laying_none, laying_step, laying_more, laying_all              it begins, has room for a step, goes on, ends
--     laying_sizes                                                   the slices keep their sizes
--     closing_room, closed                                           then Close: the whole path is written
--     path_length, path_room                                         how many pieces it has; there is room for them
use Rattle.std.specs.Prelude.{ℕ, ◌+◌, ◌<◌, ◌≤◌, ◌≡◌, refl, false, ℤ}
use native.Mathlib.Omega.{arith}
use Rattle.std.proofs.Math.Numerals.{add-one}
use Rattle.std.proofs.Common.{◌∙◌, length-append}
use Rattle.std.proofs.Math.Path.{ap}
use mathlib.Core.List.{List, [], ◌∷◌, ◌++◌, flat_map}
use Rattle.std.proofs.Math.ListN.{length}
use Rattle.table.specs.Rotation.{rotation}
use Rattle.tracing.specs.Walk.{walk}
use Rattle.tracing_walks.specs.laws.Along.{Along, along_none, along_more, along_all, along_has, along_stands}
use Rattle.weave.specs.Letters.{word_of}
use Rattle.weave.specs.Ribbon.{some}
use Rattle.weave_letters.specs.laws.Crossing.{EdgeWord}
use Rattle.weave.proofs.laws.Ribbon.{none_passes}
use Rattle.floatpath_pieces.specs.declared.place.Places.{Places}
use Rattle.floatpath_pieces.specs.Path.{far_step}
use Rattle.floatpath_pieces.specs.laws.Places.{places_of, Lent}
use Rattle.floatpath_pieces.specs.laws.Pieces.{piece_readable}
use Rattle.wholepath_pieces.specs.declared.piece.Piece.{Piece}
use Rattle.wholepath_pieces.specs.declared.piece.Piece.TheVariants.{Close}
use Rattle.wholepath_pieces.specs.Pieces.{spots_on, spots_of, whole_piece_on, piece_at, up_to, step_pieces, pieces_along, whole_path}
use Rattle.table.specs.laws.Flat.{flat_append, flat_one}
use Rattle.wholepath_pieces.specs.laws.Pieces.{PieceRead, up_length, step_length_lem, spots_few_lem}
use Rattle.wholepath_writing.specs.laws.Written.{Out, Room, Written, written_none, written_join, SameSizes, written_sizes, room_kept}

-- one step

-- its words are in range, and there is room for its pieces
pub record StepRoom (t : List ℕ) (points lifts : List ℤ) (s start : ℕ) (o : Out) : Type 0 where
  pub lent : Lent t points lifts s
  pub near : far_step t points lifts s ≡ false
  pub room : Room (start + spots_of t s) o

-- they are written, and r is the number of the piece after them
pub record Stepped (t : List ℕ) (points lifts : List ℤ) (s start : ℕ) (o : Out) (r : ℕ) (o' : Out) : Type 0 where
  pub end : r ≡ start + length (step_pieces t points lifts s)
  pub written : Written (step_pieces t points lifts s) start o o'

-- the loop over them
pub record Stepping (t : List ℕ) (points lifts : List ℤ) (s start w n first second lift i : ℕ) (o₀ o : Out) : Type 0 where
  pub fits : StepRoom t points lifts s start o₀
  pub word : EdgeWord t s w
  pub all : n ≡ spots_on w
  pub places : record { first = first; second = second; lift = lift } ≡ places_of t s
  pub most : i ≤ n
  pub written : Written (up_to (piece_at t points lifts s) i) start o₀ o

module _ {t : List ℕ} {points lifts : List ℤ} {s start : ℕ} {o : Out} where
  pub stepping_none : {w n : ℕ} {p : Places} → StepRoom t points lifts s start o → EdgeWord t s w → n ≡ spots_on w → p ≡ places_of t s
      → Stepping t points lifts s start w n p.first p.second p.lift 0 o o
  unfolding up_to
  stepping_none h e f g = record { fits = h; word = e; all = f; places = g; most = omega arith; written = written_none start o }

module _ {t : List ℕ} {points lifts : List ℤ} {s start w n first second lift i : ℕ} {o₀ o : Out} (k : Stepping t points lifts s start w n first second lift i o₀ o) where
  spots_are : n ≡ spots_of t s
  spots_are = k.all ∙ ap spots_on k.word.word

  pub stepping_few : n ≤ 99
  stepping_few = let few = spots_few_lem k.fits.lent.stands in let same = spots_are in omega arith

  module _ (h : i < n) where
    pub stepping_piece : PieceRead w i points lifts first second lift
    stepping_piece =
        let all = k.all in
        let few = stepping_few in
        record { few = omega arith; among = omega arith; words = piece_readable k.fits.lent k.places k.fits.near }

    pub stepping_room : Room (start + i + 1) o
    stepping_room = let same = spots_are in room_kept k.fits.room (written_sizes k.written) (omega arith)

    module _ {p : Piece} (e : p ≡ whole_piece_on w s i points lifts first second lift) {o' : Out} (v : Written (p ∷ []) (start + i) o o') where
      piece_is : p ≡ piece_at t points lifts s i
      unfolding piece_at places_of
      piece_is =
          e
          ∙ ap (λ x. whole_piece_on x s i points lifts first second lift) k.word.word
          ∙ ap (λ q. whole_piece_on (word_of t s) s i points lifts q.first q.second q.lift) k.places

      pub stepping_more : Stepping t points lifts s start w n first second lift (i + 1) o₀ o'
      unfolding up_to
      stepping_more = record {
        fits = k.fits;
        word = k.word;
        all = k.all;
        places = k.places;
        most = omega arith;
        written = rw add-one
            (written_join k.written (let size = up_length (piece_at t points lifts s) i in omega arith) (rw piece_is at v));
      }

  pub stepping_all : n ≤ i → Stepped t points lifts s start o₀ (start + n) o
  unfolding step_pieces
  stepping_all h =
      let most = k.most in
      let same = spots_are in
      let end : i ≡ spots_of t s = omega arith in
      let size = up_length (piece_at t points lifts s) (spots_of t s) in
      record { end = omega arith; written = rw end at k.written }

  pub stepping_sizes : SameSizes o₀ o
  stepping_sizes = written_sizes k.written

-- the walk

-- a ribbon whose words are in range, and room for its path
pub record PathRoom (t : List ℕ) (points lifts : List ℤ) (s : ℕ) (o : Out) : Type 0 where
  pub lent : Lent t points lifts s
  pub near : some (far_step t points lifts) (walk (rotation t) s) ≡ false
  pub room : Room (length (pieces_along t points lifts s) + 1) o

-- the pieces of the walk's steps are written, r of them
pub record Laid (t : List ℕ) (points lifts : List ℤ) (s : ℕ) (o : Out) (r : ℕ) (o' : Out) : Type 0 where
  pub count : r ≡ length (pieces_along t points lifts s)
  pub written : Written (pieces_along t points lifts s) 0 o o'

-- the pieces of these steps
abbrev pieces_of : List ℕ → List ℤ → List ℤ → List ℕ → List Piece
pieces_of t points lifts l = flat_map (step_pieces t points lifts) l

-- the loop over the walk
pub record Laying (t : List ℕ) (points lifts : List ℤ) (s : ℕ) (gone left : List ℕ) (n : ℕ) (o₀ o : Out) : Type 0 where
  pub along : Along t s gone left
  pub room : PathRoom t points lifts s o₀
  pub count : n ≡ length (pieces_of t points lifts gone)
  pub written : Written (pieces_of t points lifts gone) 0 o₀ o

pub laying_none : {t : List ℕ} {points lifts : List ℤ} {s : ℕ} {left : List ℕ} {o : Out} → PathRoom t points lifts s o → left ≡ walk (rotation t) s
    → Laying t points lifts s [] left 0 o o
unfolding flat_map
laying_none {o = o} k e = record { along = along_none k.lent.stands e; room = k; count = refl; written = written_none 0 o }

module _ {t : List ℕ} {points lifts : List ℤ} {s : ℕ} {gone left : List ℕ} {n : ℕ} {o₀ o : Out} (k : Laying t points lifts s gone left n o₀ o) where
  pub laying_sizes : SameSizes o₀ o
  laying_sizes = written_sizes k.written

  pub laying_all : left ≡ [] → Laid t points lifts s o₀ n o
  unfolding pieces_along
  laying_all e = let all = along_all k.along e in record { count = rw (← all) k.count; written = rw (← all) k.written }

  module _ {at : ℕ} {left' : List ℕ} (e : left ≡ at ∷ left') where
    -- the pieces of the present step are among those of the ribbon
    laying_within : n + spots_of t at ≤ length (pieces_along t points lifts s)
    unfolding pieces_along flat_map
    laying_within =
        let steps = step_pieces t points lifts in
        let whole = ap (λ l. length (flat_map steps l)) (k.along.whole ∙ ap (λ l. gone ++ l) e) in
        let parts = ap length (flat_append steps gone (at ∷ left')) ∙ length-append (flat_map steps gone) (steps at ++ flat_map steps left') in
        let rest = length-append (steps at) (flat_map steps left') in
        let here = step_length_lem t points lifts at in
        let count = k.count in
        omega arith

    pub laying_step : StepRoom t points lifts at n o
    laying_step =
        let within = laying_within in
        record {
          lent = record { stands = along_stands k.along e; points_size = k.room.lent.points_size; lifts_size = k.room.lent.lifts_size };
          near = none_passes (far_step t points lifts) (walk (rotation t) s) at k.room.near (along_has k.along e);
          room = room_kept k.room.room (written_sizes k.written) (omega arith);
        }

    -- a step more
    pub laying_more : {r : ℕ} {o' : Out} → Stepped t points lifts at n o r o' → Laying t points lifts s (gone ++ at ∷ []) left' r o₀ o'
    laying_more w =
        let steps = step_pieces t points lifts in
        let more : pieces_of t points lifts (gone ++ at ∷ []) ≡ pieces_of t points lifts gone ++ steps at = flat_append steps gone (at ∷ []) ∙ ap (λ l. flat_map steps gone ++ l) (flat_one steps at) in
        let count = k.count in
        let end = w.end in
        record {
          along = along_more k.along e;
          room = k.room;
          count = rw (more, length-append) (omega arith);
          written = rw more (written_join k.written (omega arith) w.written);
        }

-- "then Close"
module _ {t : List ℕ} {points lifts : List ℤ} {s r : ℕ} {o o' : Out} (h : PathRoom t points lifts s o) (k : Laid t points lifts s o r o') where
  pub closing_room : Room (r + 1) o'
  closing_room = let count = k.count in room_kept h.room (written_sizes k.written) (omega arith)

  pub closed : {o'' : Out} → Written (Close ∷ []) r o' o'' → Written (whole_path t points lifts s) 0 o o''
  closed w = let count = k.count in written_join k.written (omega arith) w

pub path_length : (t : List ℕ) (points lifts : List ℤ) (s : ℕ) → length (whole_path t points lifts s) ≡ length (pieces_along t points lifts s) + 1
path_length t points lifts s = length-append (pieces_along t points lifts s) (Close ∷ [])

pub path_room : {t : List ℕ} {points lifts : List ℤ} {s : ℕ} {o : Out} → PathRoom t points lifts s o → Room (length (whole_path t points lifts s)) o
path_room {t} {points} {lifts} {s} h = rw (path_length t points lifts s) h.room
