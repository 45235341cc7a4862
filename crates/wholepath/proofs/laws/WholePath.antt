-- What the call for the whole path answers, and what it leaves in the three slices: the ends of its functions.
--     short_points, short_lifts                 7, for the lent points and lifts
--     short_forms, short_coords, short_rests    7, for the three slices of the output
--     far_away, path_sized                      9; or the number of pieces
--     survey_few, along_room                    there are few pieces; an accepted path has room, and words in range
--     Left, left_declined, left_done            what is answered and left for the path from a step
--     path_refused, path_left, Ended            the two ends of the call
use Rattle.table.specs.Answers.{Answer}
use Rattle.std.specs.Prelude.{ℕ, ◌+◌, ◌*◌, ◌<◌, ◌≤◌, ◌≡◌, refl, true, false, not, leb, ℤ, length, Ok, Err}
use native.Mathlib.Omega.{arith}
use Rattle.std.proofs.Math.Path.{sym, ap}
use Rattle.std.proofs.Common.{◌∙◌}
use mathlib.Core.List.{List, flat_map}
use borrow.Author.Tests.{lt-leb, le-leb, leb-true, not-true}
use Rattle.table.specs.Rotation.{rotation}
use Rattle.table.specs.laws.Answers.{let_through}
use Rattle.table.specs.Output.{front}
use Rattle.table.specs.laws.Output.{done_declined}
use Rattle.table.specs.declared.answer.Refusal.{Refusal}
use Rattle.table.specs.declared.answer.Refusal.TheVariants.{ShortSlice, Far}
use Rattle.tracing.specs.Walk.{walk}
use Rattle.tracing_walks.specs.laws.Stands.{Stands}
use Rattle.weave.specs.Calls.{named_step, Named}
use Rattle.weave.proofs.laws.Calls.{there_steps}
use Rattle.weave.specs.Ribbon.{some}
use Rattle.floatpath_pieces.specs.Path.{point_words, lift_words, far_step}
use Rattle.wholepath_pieces.specs.Pieces.{pieces_along, whole_path, whole_forms_of, words_of, rests_of}
use Rattle.wholepath_pieces.specs.laws.Pieces.{pieces_total, pieces_most}
use Rattle.wholepath.specs.declared.survey.Survey.{Survey}
use Rattle.wholepath.specs.WholePath.{whole_along, whole_answer, whole_forms_out, whole_coords_out, whole_remainders_out}
use Rattle.wholepath.specs.laws.Survey.{survey_of}
use Rattle.wholepath_writing.specs.laws.Written.{Out, forms_length, words_length, rests_length}
use Rattle.wholepath_writing.specs.laws.Laying.{PathRoom, path_length}
use Rattle.wholepath.specs.laws.WholePath.{Left}

-- the ends of the measuring
module _ (t : List ℕ) (points lifts : List ℤ) (k c r s : ℕ) where
  pub short_points : length points < point_words → Err ShortSlice ≡ whole_along t points lifts k c r s
  unfolding whole_along
  short_points h = rw (lt-leb point_words (length points) h)

  module _ (p : point_words ≤ length points) where
    pub short_lifts : length lifts < lift_words → Err ShortSlice ≡ whole_along t points lifts k c r s
    unfolding whole_along
    short_lifts h = rw (le-leb point_words (length points) p, lt-leb lift_words (length lifts) h)

    module _ (l : lift_words ≤ length lifts) {v : Survey} (e : v ≡ survey_of t points lifts (walk (rotation t) s)) where
      pieces_are : length (whole_path t points lifts s) ≡ v.pieces + 1
      unfolding survey_of pieces_along
      pieces_are = path_length t points lifts s ∙ ap (λ n. n + 1) (pieces_total t points lifts (walk (rotation t) s) ∙ sym (ap (λ u. u.pieces) e))

      forms_are : length (flat_map whole_forms_of (whole_path t points lifts s)) ≡ v.pieces + 1
      forms_are = forms_length (whole_path t points lifts s) ∙ pieces_are

      words_are : length (flat_map words_of (whole_path t points lifts s)) ≡ 3 * (v.pieces + 1)
      words_are = words_length (whole_path t points lifts s) ∙ ap (λ n. 3 * n) pieces_are

      rests_are : length (flat_map rests_of (whole_path t points lifts s)) ≡ 3 * (v.pieces + 1)
      rests_are = rests_length (whole_path t points lifts s) ∙ ap (λ n. 3 * n) pieces_are

      far_is : some (far_step t points lifts) (walk (rotation t) s) ≡ v.far
      unfolding survey_of
      far_is = sym (ap (λ u. u.far) e)

      pub short_forms : k < v.pieces + 1 → Err ShortSlice ≡ whole_along t points lifts k c r s
      unfolding whole_along
      short_forms h = rw (le-leb point_words (length points) p, le-leb lift_words (length lifts) l, forms_are, lt-leb (v.pieces + 1) k h)

      module _ (a : v.pieces + 1 ≤ k) where
        pub short_coords : c < 3 * (v.pieces + 1) → Err ShortSlice ≡ whole_along t points lifts k c r s
        unfolding whole_along
        short_coords h =
            rw (le-leb point_words (length points) p, le-leb lift_words (length lifts) l, forms_are, le-leb (v.pieces + 1) k a, words_are, lt-leb (3 * (v.pieces + 1)) c h)

        module _ (b : 3 * (v.pieces + 1) ≤ c) where
          pub short_rests : r < 3 * (v.pieces + 1) → Err ShortSlice ≡ whole_along t points lifts k c r s
          unfolding whole_along
          short_rests h =
              rw (
                le-leb point_words (length points) p,
                le-leb lift_words (length lifts) l,
                forms_are,
                le-leb (v.pieces + 1) k a,
                words_are,
                le-leb (3 * (v.pieces + 1)) c b,
                rests_are,
                lt-leb (3 * (v.pieces + 1)) r h,
              )

          module _ (d : 3 * (v.pieces + 1) ≤ r) where
            pub far_away : v.far ≡ true → Err Far ≡ whole_along t points lifts k c r s
            unfolding whole_along
            far_away h =
                rw (
                  le-leb point_words (length points) p,
                  le-leb lift_words (length lifts) l,
                  forms_are,
                  le-leb (v.pieces + 1) k a,
                  words_are,
                  le-leb (3 * (v.pieces + 1)) c b,
                  rests_are,
                  le-leb (3 * (v.pieces + 1)) r d,
                  far_is,
                  h,
                )

            pub path_sized : v.far ≡ false → Ok (v.pieces + 1) ≡ whole_along t points lifts k c r s
            unfolding whole_along
            path_sized h =
                rw (
                  le-leb point_words (length points) p,
                  le-leb lift_words (length lifts) l,
                  forms_are,
                  le-leb (v.pieces + 1) k a,
                  words_are,
                  le-leb (3 * (v.pieces + 1)) c b,
                  rests_are,
                  le-leb (3 * (v.pieces + 1)) r d,
                  far_is,
                  h,
                )
                (ap Ok (sym pieces_are))

-- 202,752 pieces, and Close
pub survey_few : {t : List ℕ} (points lifts : List ℤ) {s : ℕ} {v : Survey} → Stands t s → v ≡ survey_of t points lifts (walk (rotation t) s) → v.pieces ≤ 202752
unfolding survey_of
survey_few points lifts h e = rw e (pieces_most h)

-- an accepted path has room, and words in range
module _ {t : List ℕ} {s : ℕ} (h : Stands t s) (points lifts : List ℤ) (o : Out) {n : ℕ} where
  pub along_room : Ok n ≡ whole_along t points lifts (length o.forms) (length o.coords) (length o.rests) s → PathRoom t points lifts s o
  unfolding whole_along
  along_room e =
      let path = whole_path t points lifts s in
      let a = let_through (leb point_words (length points)) done_declined (sym e) in
      let b = let_through (leb lift_words (length lifts)) done_declined a.rest in
      let d = let_through (leb (length (flat_map whole_forms_of path)) (length o.forms)) done_declined b.rest in
      let f = let_through (leb (length (flat_map words_of path)) (length o.coords)) done_declined d.rest in
      let g = let_through (leb (length (flat_map rests_of path)) (length o.rests)) done_declined f.rest in
      let far = let_through (not (some (far_step t points lifts) (walk (rotation t) s))) done_declined g.rest in
      let size = path_length t points lifts s in
      let forms = leb-true (length (flat_map whole_forms_of path)) (length o.forms) d.held in
      let coords = leb-true (length (flat_map words_of path)) (length o.coords) f.held in
      let rests = leb-true (length (flat_map rests_of path)) (length o.rests) g.held in
      let x = forms_length path in
      let y = words_length path in
      let z = rests_length path in
      record {
        lent = record { stands = h; points_size = leb-true point_words (length points) a.held; lifts_size = leb-true lift_words (length lifts) b.held };
        near = not-true _ far.held;
        room = record { forms = omega arith; coords = omega arith; rests = omega arith };
      }

module _ {t : List ℕ} {points lifts : List ℤ} {s : ℕ} {o : Out} {a : Answer} (e : a ≡ whole_along t points lifts (length o.forms) (length o.coords) (length o.rests) s) where
  pub left_declined : {r : Refusal} → a ≡ Err r → Left t points lifts s o (Err r) o
  left_declined f = record { answer = sym f ∙ e; forms = refl; coords = refl; rests = refl }

  pub left_done : {n : ℕ} {o' : Out} → a ≡ Ok n → o'.forms ≡ front (flat_map whole_forms_of (whole_path t points lifts s)) o.forms
      → o'.coords ≡ front (flat_map words_of (whole_path t points lifts s)) o.coords → o'.rests ≡ front (flat_map rests_of (whole_path t points lifts s)) o.rests
      → Left t points lifts s o (Ok n) o'
  left_done f x y z = record { answer = sym f ∙ e; forms = x; coords = y; rests = z }

-- the ends of the call
module _ (t : List ℕ) (d y : ℕ) (points lifts : List ℤ) (o : Out) {n : Named} (e : n ≡ named_step t d y) where
  abbrev Ended : Answer → Out → Type 0
  Ended a o' =
      (a ≡ whole_answer t d y points lifts (length o.forms) (length o.coords) (length o.rests))
      × (o'.forms ≡ whole_forms_out t d y points lifts o.forms o.coords o.rests)
      × (o'.coords ≡ whole_coords_out t d y points lifts o.forms o.coords o.rests)
      × (o'.rests ≡ whole_remainders_out t d y points lifts o.forms o.coords o.rests)

  pub path_refused : {r : Refusal} → n ≡ Err r → Ended (Err r) o
  path_refused f = rw (← e, f) (refl, refl, refl, refl)

  pub path_left : {s : ℕ} {a : Answer} {o' : Out} → n ≡ Ok s → Left t points lifts s o a o' → Ended a o'
  path_left f l =
      let word = (there_steps t d y (sym f ∙ e)).word in
      rw (← e, f, ← word, ← l.answer) (refl, l.forms, l.coords, l.rests)
