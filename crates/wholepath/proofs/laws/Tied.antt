-- The pieces of an accepted path: their words are small, and where the float path is accepted too, the two agree.
--     whole_near, whole_count          an accepted path: its words are small; its number of pieces
--     float_whole, float_tied          where the float path is accepted, so is this one, and the two agree
--     never_eight                      the call never declines with 8
--     Accepted, accepted               what an accepted call has found out
--     FloatAccepted, float_accepted    the same of the float path
--     one_spot, spot_is, step_tied     an edge of at most one turn: one piece, at the float path's point
--     as_many, whole_along_lem         then both paths have as many pieces
use Rattle.std.specs.Prelude.{ℕ, ◌+◌, ◌*◌, ◌/◌, ◌%◌, ◌≤◌, ◌<◌, ◌≡◌, refl, Bool, true, false, cond, not, ◌&&◌, ◌≢◌, eqb, leb, ltb, ℤ, length, get_or, Ok, Err}
use native.Mathlib.Omega.{arith}
use Rattle.std.proofs.Math.Decide.{ℕ_discrete}
use Rattle.std.proofs.Common.{◌∙◌}
use Rattle.std.proofs.Math.Path.{ap}
use mathlib.Core.List.{List, [], ◌∷◌, flat_map}
use borrow.Author.Tests.{eq-eqb, ne_eqb, ltb-false, le-leb, not-true}
use Rattle.orbits.proofs.laws.Truth.{truth, holds, fails}
use Rattle.table.specs.Layout.{darts}
use Rattle.table.specs.Check.{good?}
use Rattle.table.specs.Rotation.{rotation, live?}
use Rattle.table.specs.Answers.{number_of, Answer}
use Rattle.table.specs.laws.Answers.{let_through}
use Rattle.table.specs.laws.Output.{done_declined, done_same}
use Rattle.table.specs.declared.answer.Refusal.TheVariants.{ShortSlice, ManyTurns}
use Rattle.tracing.specs.Listing.{has}
use Rattle.tracing.specs.Met.{total}
use Rattle.tracing.specs.Walk.{walk}
use Rattle.tracing.proofs.laws.Listing.{has_here}
use Rattle.tracing.proofs.laws.Has.{has_tail}
use Rattle.tracing_walks.specs.laws.Along.{walk_stands}
use Rattle.tracing_walks.specs.laws.Stands.{Stands}
use Rattle.weave.specs.Calls.{named_step, Named}
use Rattle.weave.proofs.laws.Calls.{there_steps}
use Rattle.weave.specs.Letters.{over, under, unturned, crossings, word_of, step_letters}
use Rattle.weave.specs.Ribbon.{some}
use Rattle.weave.proofs.laws.Ribbon.{none_passes}
use Rattle.floatpath_pieces.specs.Path as float
use Rattle.floatpath_pieces.specs.Path.{far_step, many_turns, letter_of, first_end, second_end, lift_at, point_words, lift_words}
use Rattle.floatpath_pieces.specs.declared.piece.Point.{Point}
use Rattle.floatpath_pieces.specs.declared.piece.Piece.TheVariants as floatPiece
use Rattle.floatpath_pieces.specs.laws.Pieces.{near_step}
use Rattle.floatpath_pieces.specs.laws.Coordinate.{NearEnds}
use Rattle.floatpath.specs.PathCall.{path_along, path_by, path_answer}
use Rattle.floatpath.specs.Unrounded.{Unrounded}
use Rattle.floatpath.specs.laws.Unrounded.{path_unrounded}
use Rattle.floatpath.specs.laws.Laying.{path_length as float-length}
use Rattle.wholepath_pieces.specs.declared.piece.Spot.{Spot}
use Rattle.wholepath_pieces.specs.declared.piece.Piece.TheVariants as wholePiece
use Rattle.wholepath_pieces.specs.Pieces.{spots_of, crossing_number, letter_on, spot_at, whole_piece_for, whole_piece_on, piece_at, up_to, step_pieces, pieces_along, whole_path, whole_form_of, spot_of}
use Rattle.wholepath_places.specs.laws.Between.{Crossing}
use Rattle.wholepath_places.proofs.laws.Between.{crossing_few, remains_low}
use Rattle.wholepath_pieces.specs.laws.Pieces.{number_low, pieces_total, pieces_most, spots_few_lem}
use Rattle.wholepath_pieces.proofs.laws.Placed.{spot_here_lem, middle_lifted}
use Rattle.wholepath.specs.WholePath.{whole_along, whole_by, whole_answer}
use Rattle.wholepath.specs.Tied.{SpotNear, Tied}
use Rattle.wholepath_writing.specs.laws.Written.{forms_length, words_length, rests_length}
use Rattle.wholepath_writing.specs.laws.Laying.{path_length}

-- what an accepted call has found out

record Accepted (t : List ℕ) (points lifts : List ℤ) (s n : ℕ) : Type 0 where
  stands : Stands t s
  near : some (far_step t points lifts) (walk (rotation t) s) ≡ false
  count : n ≡ length (whole_path t points lifts s)

accepted : (t : List ℕ) (d y : ℕ) (points lifts : List ℤ) (k c r n : ℕ) → whole_answer t d y points lifts k c r ≡ Ok n → Accepted t points lifts (2 * d + y) n
unfolding whole_along
accepted t d y points lifts k c r n a = by (named_step t d y) refl a
  where
    by : (m : Named) → m ≡ named_step t d y → whole_by t points lifts k c r m ≡ Ok n → Accepted t points lifts (2 * d + y) n
    by (Err x) e f = absurd (done_declined f)
    by (Ok s) e f =
        let there = there_steps t d y e in
        let p = let_through (leb point_words (length points)) done_declined f in
        let l = let_through (leb lift_words (length lifts)) done_declined p.rest in
        let g = let_through (leb (length (flat_map _ (whole_path t points lifts s))) k) done_declined l.rest in
        let h = let_through (leb _ c) done_declined g.rest in
        let i = let_through (leb _ r) done_declined h.rest in
        let far = let_through (not (some (far_step t points lifts) (walk (rotation t) s))) done_declined i.rest in
        rw (← there.word) (record { stands = there.stands; near = not-true _ far.held; count = done_same far.rest })

-- small words

spot_near : (t : List ℕ) (points lifts : List ℤ) (s i : ℕ) → Stands t s → far_step t points lifts s ≡ false → i < spots_of t s → SpotNear (spot_of (piece_at t points lifts s i))
unfolding spot_at
spot_near t points lifts s i h f l =
    let near = near_step t points lifts s f in
    let letter = letter_on (word_of t s) (s % 2) i in
    let x = crossing near.near_x in
    let y = crossing near.near_y in
    let z = crossing near.near_z in
    rw (spot_here_lem t points lifts s i) (record {
      x = crossing_few x letter;
      y = crossing_few y letter;
      z = crossing_few z letter;
      xrest = remains_low x.between;
      yrest = remains_low y.between;
      zrest = remains_low z.between;
    })
  where
    crossing : {a b e : ℤ} → NearEnds a b e → Crossing (spots_of t s) (crossing_number (spots_of t s) (s / 2) i) a b e
    crossing k = record { between = record { few = spots_few_lem h; among = number_low (spots_of t s) (s / 2) i l; first = k.first; second = k.second }; lift = k.lift }

module _ (t : List ℕ) (d y : ℕ) (points lifts : List ℤ) (k c r n : ℕ) (a : whole_answer t d y points lifts k c r ≡ Ok n) where
  pub whole_near : (s i : ℕ) → has s (walk (rotation t) (2 * d + y)) ≡ true → i < spots_of t s → SpotNear (spot_of (piece_at t points lifts s i))
  whole_near s i e l =
      let q = accepted t d y points lifts k c r n a in
      spot_near t points lifts s i (walk_stands q.stands e) (none_passes (far_step t points lifts) (walk (rotation t) (2 * d + y)) s q.near e) l

  -- "the sum of max(1, |turns|) over the steps, plus 1", of at most 2,048 steps
  pub whole_count : (n ≡ total (spots_of t) (walk (rotation t) (2 * d + y)) + 1) × (n ≤ 202753)
  unfolding pieces_along
  whole_count =
      let q = accepted t d y points lifts k c r n a in
      let count = q.count in
      let size = path_length t points lifts (2 * d + y) in
      let sum = pieces_total t points lifts (walk (rotation t) (2 * d + y)) in
      let most = pieces_most q.stands in
      (omega arith, omega arith)

-- beside the float path

-- an edge of at most one turn gives one piece
one_spot : (t : List ℕ) (s : ℕ) → many_turns t s ≡ false → spots_of t s ≡ 1
unfolding crossings
one_spot t s m =
    let w = word_of t s in
    let few = ltb-false 1 (crossings w) m in
    elim (ℕ_discrete w unturned) [
      | yes e ↦ rw (eq-eqb w unturned e)
      | no e ↦ rw (ne_eqb w unturned e) (omega arith)
    ]

-- the first letter of a list, or 0
head_letter : (l : List ℕ) → get_or l 0 0 ≡ float.first_of l
head_letter [] = refl
head_letter (x ∷ l) = refl

first_number : (d : ℕ) → crossing_number 1 d 0 ≡ 0
first_number d = by (eqb (d % 2) 0)
  where
    by : (b : Bool) → ◌≡◌ {A = ℕ} (cond b 0 0) 0
    by true = refl
    by false = refl

same_form : (letter : ℕ) (q : Spot) (p : Point) → whole_form_of (whole_piece_for letter q) ≡ float.form_of (float.piece_for letter p)
unfolding whole_piece_for float.piece_for
same_form letter q p = by (eqb letter over) (eqb letter under)
  where
    by : (a b : Bool) → whole_form_of (cond a (wholePiece.Over q) (cond b (wholePiece.Under q) (wholePiece.Flat q)))
        ≡ float.form_of (cond a (floatPiece.Over p) (cond b (floatPiece.Under p) (floatPiece.Flat p)))
    by true b = refl
    by false true = refl
    by false false = refl

module _ (t : List ℕ) (points lifts : List ℤ) (s : ℕ) (m : many_turns t s ≡ false) where
  letter_is : letter_on (word_of t s) (s % 2) 0 ≡ letter_of t s
  unfolding step_letters
  letter_is = head_letter (step_letters t s)

  -- the middle of the edge, with the lift
  spot_is : spot_of (piece_at t points lifts s 0) ≡ spot_at (letter_of t s) 1 0 points lifts (first_end t s) (second_end t s) (lift_at s)
  spot_is = spot_here_lem t points lifts s 0 ∙ rw (one_spot t s m, first_number (s / 2), letter_is)

  one_piece : step_pieces t points lifts s ≡ piece_at t points lifts s 0 ∷ []
  unfolding step_pieces up_to
  one_piece = ap (up_to (piece_at t points lifts s)) (one_spot t s m)

  step_tied : Unrounded t points lifts s → Tied t points lifts s
  unfolding piece_at whole_piece_on float.piece_on spot_at
  step_tied u = record {
    one = one_piece;
    form = rw letter_is (same_form (letter_of t s) _ _);
    x = rw (spot_is, middle_lifted (letter_of t s)) u.x;
    y = rw (spot_is, middle_lifted (letter_of t s)) u.y;
    z = rw (spot_is, middle_lifted (letter_of t s)) u.z;
  }

-- where the float path is accepted

record FloatAccepted (t : List ℕ) (points lifts : List ℤ) (s n : ℕ) : Type 0 where
  points_size : leb point_words (length points) ≡ true
  lifts_size : leb lift_words (length lifts) ≡ true
  few : some (many_turns t) (walk (rotation t) s) ≡ false
  near : some (far_step t points lifts) (walk (rotation t) s) ≡ false
  count : n ≡ length (walk (rotation t) s) + 1

float_accepted : (t : List ℕ) (points lifts : List ℤ) (m c s n : ℕ) → path_along t points lifts m c s ≡ Ok n → FloatAccepted t points lifts s n
unfolding path_along
float_accepted t points lifts m c s n f =
    let path = float.path_from t points lifts s in
    let p = let_through (leb point_words (length points)) done_declined f in
    let l = let_through (leb lift_words (length lifts)) done_declined p.rest in
    let g = let_through (leb (length (flat_map float.forms_of path)) m) done_declined l.rest in
    let h = let_through (leb (length (flat_map float.floats_of path)) c) done_declined g.rest in
    let many = let_through (not (some (many_turns t) (walk (rotation t) s))) done_declined h.rest in
    let far = let_through (not (some (far_step t points lifts) (walk (rotation t) s))) done_declined many.rest in
    record {
      points_size = p.held;
      lifts_size = l.held;
      few = not-true _ many.held;
      near = not-true _ far.held;
      count = done_same far.rest ∙ float-length t points lifts s;
    }

-- each step gives one piece
total_one : (g : ℕ → ℕ) (l : List ℕ) → ((x : ℕ) → has x l ≡ true → g x ≡ 1) → total g l ≡ length l
unfolding total
total_one g [] e = refl
total_one g (x ∷ l) e = let here = e x (has_here x l) in let r = total_one g l (λ y h. e y (has_tail y x l h)) in omega arith

module _ (t : List ℕ) (points lifts : List ℤ) (s n : ℕ) (f : FloatAccepted t points lifts s n) where
  as_many : length (whole_path t points lifts s) ≡ n
  unfolding pieces_along
  as_many =
      let steps = walk (rotation t) s in
      let ones = total_one (spots_of t) steps (λ x h. one_spot t x (none_passes (many_turns t) steps x f.few h)) in
      let size = path_length t points lifts s in
      let sum = pieces_total t points lifts steps in
      let count = f.count in
      omega arith

  whole_along_lem : (k c r : ℕ) → n ≤ k → 3 * n ≤ c → 3 * n ≤ r → whole_along t points lifts k c r s ≡ Ok n
  unfolding whole_along
  whole_along_lem k c r hk hc hr =
      let path = whole_path t points lifts s in
      rw (
        f.points_size,
        f.lifts_size,
        forms_length path,
        words_length path,
        rests_length path,
        as_many,
        le-leb n k hk,
        le-leb (3 * n) c hc,
        le-leb (3 * n) r hr,
        f.near,
      )

module _ (t : List ℕ) (d y : ℕ) (points lifts : List ℤ) (m c n : ℕ) (a : path_answer t d y points lifts m c ≡ Ok n) where
  -- so is the whole path, with as many pieces
  pub float_whole : (k e r : ℕ) → n ≤ k → 3 * n ≤ e → 3 * n ≤ r → whole_answer t d y points lifts k e r ≡ Ok n
  float_whole k e r hk he hr = by (named_step t d y) a
    where
      by : (x : Named) → path_by t points lifts m c x ≡ Ok n → whole_by t points lifts k e r x ≡ Ok n
      by (Err x) f = absurd (done_declined f)
      by (Ok s) f = whole_along_lem t points lifts s n (float_accepted t points lifts m c s n f) k e r hk he hr

  -- and the two agree
  pub float_tied : (s : ℕ) → has s (walk (rotation t) (2 * d + y)) ≡ true → Tied t points lifts s
  float_tied s h = by (named_step t d y) refl a
    where
      by : (x : Named) → x ≡ named_step t d y → path_by t points lifts m c x ≡ Ok n → Tied t points lifts s
      by (Err x) e f = absurd (done_declined f)
      by (Ok start) e f =
          let word = (there_steps t d y e).word in
          let q = float_accepted t points lifts m c start n f in
          step_tied t points lifts s (none_passes (many_turns t) (walk (rotation t) start) s q.few (rw word h)) (path_unrounded t d y points lifts m c n a s h)

-- "never with 8"

-- the number of the refusal of a declined answer, or of a name that is refused; 0 of others
abbrev declined_by : Answer → ℕ
declined_by (Ok n) = 0
declined_by (Err r) = number_of r

abbrev refused_by : Named → ℕ
refused_by (Ok s) = 0
refused_by (Err r) = number_of r

other_answer : {a b : Answer} → declined_by a < declined_by b → a ≡ b → ⊥
other_answer h e = let same = ap declined_by e in omega arith

named_few : (t : List ℕ) (d y : ℕ) → refused_by (named_step t d y) ≤ 4
unfolding named_step
named_few t d y = elim (truth (good? t)) [
  | fails g ↦ rw g (omega arith)
  | holds g ↦ elim (truth (ltb d darts && ltb y 2)) [
    | fails n ↦ rw (g, n) (omega arith)
    | holds n ↦ elim (truth (live? t d)) [
      | fails l ↦ rw (g, n, l) (omega arith)
      | holds l ↦ rw (g, n, l) (omega arith)
    ]
  ]
]

pub never_eight : (t : List ℕ) (d y : ℕ) (points lifts : List ℤ) (k c r : ℕ) → whole_answer t d y points lifts k c r ≢ Err ManyTurns
unfolding whole_along
never_eight t d y points lifts k c r = by (named_step t d y) (named_few t d y)
  where
    by : (m : Named) → refused_by m ≤ 4 → whole_by t points lifts k c r m ≢ Err ManyTurns
    by (Err x) h f = let same = ap declined_by f in omega arith
    by (Ok s) h f =
        let short = other_answer {a = Err ShortSlice} {b = Err ManyTurns} (omega arith) in
        let p = let_through (leb point_words (length points)) short f in
        let l = let_through (leb lift_words (length lifts)) short p.rest in
        let g = let_through (leb (length (flat_map _ (whole_path t points lifts s))) k) short l.rest in
        let i = let_through (leb _ c) short g.rest in
        let j = let_through (leb _ r) short i.rest in
        elim (truth (some (far_step t points lifts) (walk (rotation t) s))) [
          | holds e ↦ let same = ap declined_by (rw e at j.rest) in omega arith
          | fails e ↦ let same = ap declined_by (rw e at j.rest) in omega arith
        ]
