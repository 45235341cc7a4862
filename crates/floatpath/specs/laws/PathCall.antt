-- What the call for the float path answers, and what it leaves in the two slices, document 01, "When a call declines":
-- "1, 2, 3, 4, 5, 6, 8, 9, with 7 tested after 4".
--     short_points, short_lifts, short_forms, short_coords    7, for each of the four slices
--     many_turns_lem, far_away, path_sized                    8; 9; or the number of pieces
--     survey_few                                              a walk has at most as many steps as there are step words
--     along_room                                              an accepted path has room, and words in range
--     Left, left_declined, left_done                          what is answered and left for the path from a step
--     path_refused, path_left                                 the two ends of the call
use Rattle.std.specs.Prelude.{ℕ, ◌+◌, ◌*◌, ◌<◌, ◌≤◌, ◌≡◌, refl, true, false, not, leb, ℤ, Float, length, Ok, Err}
use Rattle.std.proofs.Common.{arith, ◌∙◌, ap}
use Rattle.std.proofs.Math.Path.{sym}
use mathlib.Core.List.{List, flat_map}
use borrow.Author.Tests.{lt-leb, le-leb, leb-true, not-true}
use Rattle.table.specs.Rotation.{rotation}
use Rattle.table.specs.laws.Lawful.{good_lawful}
use Rattle.table.specs.Output.{front}
use Rattle.table.specs.laws.Output.{done_declined}
use Rattle.table.specs.declared.answer.Refusal.{Refusal}
use Rattle.table.specs.declared.answer.Refusal.TheVariants.{ShortSlice, ManyTurns, Far}
use Rattle.tracing.specs.Step.{step, steps}
use Rattle.tracing.specs.Walk.{walk}
use Rattle.tracing.proofs.laws.Walk.{run_length, walk_run, walk_period, walk_period_le}
use Rattle.tracing_walks.specs.laws.Stands.{Stands, stands_low}
use Rattle.weave.specs.Calls.{named_step, Named}
use Rattle.weave.proofs.laws.Calls.{there_steps}
use Rattle.weave.specs.Ribbon.{some}
use Rattle.floatpath.specs.declared.survey.Survey.{Survey}
use Rattle.floatpath_pieces.specs.Path.{point_words, lift_words, path_from, forms_of, floats_of, many_turns, far_step}
use Rattle.floatpath_pieces.specs.laws.Places.{Lent}
use Rattle.floatpath.specs.laws.Survey.{survey_of}
use Rattle.floatpath.specs.laws.Laying.{forms_length, floats_length, path_length, PathRoom}
use Rattle.floatpath.specs.PathCall.{path_along, path_answer, forms_out, coords_out}
use Rattle.table.specs.Answers.{if_done, Answer}
use Rattle.table.specs.laws.Answers.{let_through}

-- the ends of the measuring

module _ (t : List ℕ) (points lifts : List ℤ) (m c s : ℕ) where
  pub short_points : length points < point_words → Err ShortSlice ≡ path_along t points lifts m c s
  unfolding path_along
  short_points h = rw (lt-leb point_words (length points) h)

  module _ (p : point_words ≤ length points) where
    pub short_lifts : length lifts < lift_words → Err ShortSlice ≡ path_along t points lifts m c s
    unfolding path_along
    short_lifts h = rw (le-leb point_words (length points) p, lt-leb lift_words (length lifts) h)

    module _ (l : lift_words ≤ length lifts) {v : Survey} (e : v ≡ survey_of t points lifts (walk (rotation t) s)) where
      pieces_are : v.steps + 1 ≡ length (path_from t points lifts s)
      unfolding survey_of
      pieces_are = rw e (sym (path_length t points lifts s))

      forms_are : length (flat_map forms_of (path_from t points lifts s)) ≡ v.steps + 1
      forms_are = forms_length (path_from t points lifts s) ∙ sym pieces_are

      floats_are : length (flat_map floats_of (path_from t points lifts s)) ≡ 3 * (v.steps + 1)
      floats_are = floats_length (path_from t points lifts s) ∙ ap (λ n. 3 * n) (sym pieces_are)

      many_is : some (many_turns t) (walk (rotation t) s) ≡ v.many
      unfolding survey_of
      many_is = sym (ap (λ u. u.many) e)

      far_is : some (far_step t points lifts) (walk (rotation t) s) ≡ v.far
      unfolding survey_of
      far_is = sym (ap (λ u. u.far) e)

      pub short_forms : m < v.steps + 1 → Err ShortSlice ≡ path_along t points lifts m c s
      unfolding path_along
      short_forms h = rw (le-leb point_words (length points) p, le-leb lift_words (length lifts) l, forms_are, lt-leb (v.steps + 1) m h)

      module _ (a : v.steps + 1 ≤ m) where
        pub short_coords : c < 3 * (v.steps + 1) → Err ShortSlice ≡ path_along t points lifts m c s
        unfolding path_along
        short_coords h = rw (le-leb point_words (length points) p, le-leb lift_words (length lifts) l, forms_are, le-leb (v.steps + 1) m a, floats_are, lt-leb (3 * (v.steps + 1)) c h)

        module _ (b : 3 * (v.steps + 1) ≤ c) where
          pub many_turns_lem : v.many ≡ true → Err ManyTurns ≡ path_along t points lifts m c s
          unfolding path_along
          many_turns_lem h = rw (le-leb point_words (length points) p, le-leb lift_words (length lifts) l, forms_are, le-leb (v.steps + 1) m a, floats_are, le-leb (3 * (v.steps + 1)) c b, many_is, h)

          module _ (x : v.many ≡ false) where
            pub far_away : v.far ≡ true → Err Far ≡ path_along t points lifts m c s
            unfolding path_along
            far_away h =
                rw (
                  le-leb point_words (length points) p,
                  le-leb lift_words (length lifts) l,
                  forms_are,
                  le-leb (v.steps + 1) m a,
                  floats_are,
                  le-leb (3 * (v.steps + 1)) c b,
                  many_is,
                  x,
                  far_is,
                  h,
                )

            pub path_sized : v.far ≡ false → Ok (v.steps + 1) ≡ path_along t points lifts m c s
            unfolding path_along
            path_sized h =
                rw (le-leb point_words (length points) p, le-leb lift_words (length lifts) l, forms_are, le-leb (v.steps + 1) m a, floats_are, le-leb (3 * (v.steps + 1)) c b, many_is, x, far_is, h)
                (ap Ok pieces_are)

-- a walk has at most as many steps as there are step words
pub survey_few : {t : List ℕ} {points lifts : List ℤ} {s : ℕ} {v : Survey} → Lent t points lifts s → v ≡ survey_of t points lifts (walk (rotation t) s) → v.steps ≤ steps
unfolding survey_of
survey_few {t} {s = s} h e =
    let R = rotation t in
    let L = good_lawful t h.stands.good in
    let low = stands_low h.stands in
    let p = walk_period R L s low in
    let few = walk_period_le R L s low p in
    rw (e, walk_run R s p few, run_length (step R) s p.steps) few

-- an accepted path has room, and words in range

pub along_room : {t : List ℕ} {s : ℕ} → Stands t s → (points lifts : List ℤ) (m c : ℕ) {n : ℕ} → Ok n ≡ path_along t points lifts m c s → PathRoom t points lifts s m c
unfolding path_along
along_room {t} {s} h points lifts m c e =
    let path = path_from t points lifts s in
    let steps = walk (rotation t) s in
    let a = let_through (leb point_words (length points)) done_declined (sym e) in
    let b = let_through (leb lift_words (length lifts)) done_declined a.rest in
    let d = let_through (leb (length (flat_map forms_of path)) m) done_declined b.rest in
    let f = let_through (leb (length (flat_map floats_of path)) c) done_declined d.rest in
    let g = let_through (not (some (many_turns t) steps)) done_declined f.rest in
    let far = let_through (not (some (far_step t points lifts) steps)) done_declined g.rest in
    let size = path_length t points lifts s in
    let forms = leb-true (length (flat_map forms_of path)) m d.held in
    let coords = leb-true (length (flat_map floats_of path)) c f.held in
    let x = forms_length path in
    let y = floats_length path in
    record {
      lent = record { stands = h; points_size = leb-true point_words (length points) a.held; lifts_size = leb-true lift_words (length lifts) b.held };
      near = not-true _ far.held;
      forms = omega arith;
      coords = omega arith;
    }

-- the ends of the path from a step

-- what is answered and left where the path from step s is asked for
pub record Left (t : List ℕ) (points lifts : List ℤ) (s : ℕ) (forms : List ℕ) (coords : List Float) (r : Answer) (forms' : List ℕ) (coords' : List Float) : Type 0 where
  pub answer : r ≡ path_along t points lifts (length forms) (length coords) s
  pub forms_left : forms' ≡ if_done (path_along t points lifts (length forms) (length coords) s) (front (flat_map forms_of (path_from t points lifts s)) forms) forms
  pub coords_left : coords' ≡ if_done (path_along t points lifts (length forms) (length coords) s) (front (flat_map floats_of (path_from t points lifts s)) coords) coords

module _ {t : List ℕ} {points lifts : List ℤ} {s : ℕ} {forms : List ℕ} {coords : List Float} {a : Answer} (e : a ≡ path_along t points lifts (length forms) (length coords) s) where
  pub left_declined : {r : Refusal} → a ≡ Err r → Left t points lifts s forms coords (Err r) forms coords
  left_declined f = record { answer = sym f ∙ e; forms_left = rw (← e, f); coords_left = rw (← e, f) }

  pub left_done : {n : ℕ} {forms' : List ℕ} {coords' : List Float} → a ≡ Ok n → forms' ≡ front (flat_map forms_of (path_from t points lifts s)) forms
      → coords' ≡ front (flat_map floats_of (path_from t points lifts s)) coords → Left t points lifts s forms coords (Ok n) forms' coords'
  left_done f g h = record { answer = sym f ∙ e; forms_left = rw (← e, f) g; coords_left = rw (← e, f) h }

-- the ends of the call

module _ (t : List ℕ) (d k : ℕ) (points lifts : List ℤ) (forms : List ℕ) (coords : List Float) {n : Named} (e : n ≡ named_step t d k) where
  pub path_refused : {r : Refusal} → n ≡ Err r
      → (Err r ≡ path_answer t d k points lifts (length forms) (length coords))
      × (forms ≡ forms_out t d k points lifts forms coords) × (coords ≡ coords_out t d k points lifts forms coords)
  path_refused f = rw (← e, f) (refl, refl, refl)

  pub path_left : {s : ℕ} {r : Answer} {forms' : List ℕ} {coords' : List Float} → n ≡ Ok s → Left t points lifts s forms coords r forms' coords'
      → (r ≡ path_answer t d k points lifts (length forms) (length coords)) × (forms' ≡ forms_out t d k points lifts forms coords) × (coords' ≡ coords_out t d k points lifts forms coords)
  path_left f l =
      let word = (there_steps t d k (sym f ∙ e)).word in
      rw (← e, f, ← word) (l.answer, l.forms_left, l.coords_left)
