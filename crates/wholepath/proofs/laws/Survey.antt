-- What the walk of a ribbon shows before its whole path is written: the number of its pieces, and whether a word is out of range. The loop that gathers it.
--     survey_of, survey_with                           the survey of some steps; with one step more
--     with_far, with_near                              a step that is far, or not
--     most_before                                      the most pieces before the last step
--     Surveying                                        the loop over the walk
--     surveying_none, surveying_more, surveying_all    it begins, goes on, ends
--     surveying_lent, surveying_most                   the present step's words are there; there are few pieces
use Rattle.std.specs.Prelude.{[], ℕ, ◌+◌, ◌*◌, ◌≤◌, ◌≡◌, refl, Bool, true, false, List, ◌∷◌, ◌++◌, ℤ, length}
use native.Mathlib.Omega.{arith}
use Rattle.std.proofs.Common.{◌∙◌, length-append}
use Rattle.std.proofs.Math.Path.{ap}
use Rattle.std.proofs.Math.Bool.{or-true, or-false}
use Rattle.table.specs.Rotation.{rotation}
use Rattle.tracing.specs.Walk.{walk}
use Rattle.tracing.specs.Met.{total}
use Rattle.tracing.proofs.laws.Totals.{total_append}
use Rattle.tracing_walks.specs.laws.Along.{Along, along_none, along_more, along_all, along_stands, along_low}
use Rattle.weave_letters.specs.laws.Crossing.{EdgeWord}
use Rattle.weave.specs.Ribbon.{some}
use Rattle.weave.proofs.laws.Ribbon.{some_append}
use Rattle.floatpath_pieces.specs.Path.{point_words, lift_words, far_step}
use Rattle.floatpath_pieces.specs.laws.Places.{Lent}
use Rattle.wholepath_pieces.specs.Pieces.{spots_on, spots_of}
use Rattle.wholepath_pieces.specs.laws.Pieces.{spots_few_lem}
use Rattle.wholepath.specs.declared.survey.Survey.{Survey}
use Rattle.wholepath.specs.laws.Survey.{survey_of, survey_with, most_before}

module _ (v : Survey) (n : ℕ) {f : Bool} where
  pub with_far : f ≡ true → record { pieces = v.pieces + n; far = true } ≡ survey_with v n f
  unfolding survey_with
  with_far e = rw (e, or-true v.far)

  pub with_near : f ≡ false → record { pieces = v.pieces + n; far = v.far } ≡ survey_with v n f
  unfolding survey_with
  with_near e = rw (e, or-false v.far)

module _ (t : List ℕ) (points lifts : List ℤ) (l : List ℕ) (x : ℕ) where
  survey_more : survey_with (survey_of t points lifts l) (spots_of t x) (far_step t points lifts x) ≡ survey_of t points lifts (l ++ (x ∷ []))
  unfolding survey_with survey_of some total
  survey_more =
      let pieces : total (spots_of t) l + spots_of t x ≡ total (spots_of t) (l ++ (x ∷ [])) = let all = total_append (spots_of t) l (x ∷ []) in omega arith in
      rw (← pieces, some_append (far_step t points lifts) l (x ∷ []), or-false (far_step t points lifts x))

-- the loop over the walk
pub record Surveying (t : List ℕ) (points lifts : List ℤ) (s : ℕ) (gone left : List ℕ) (v : Survey) : Type 0 where
  pub along : Along t s gone left
  pub points_size : point_words ≤ length points
  pub lifts_size : lift_words ≤ length lifts
  pub seen : v ≡ survey_of t points lifts gone
  pub few : v.pieces ≤ 99 * length gone

pub surveying_none : {t : List ℕ} {points lifts : List ℤ} {s : ℕ} {left : List ℕ} → Lent t points lifts s → left ≡ walk (rotation t) s
    → Surveying t points lifts s [] left (record { pieces = 0; far = false })
unfolding survey_of some total
surveying_none k e = record { along = along_none k.stands e; points_size = k.points_size; lifts_size = k.lifts_size; seen = refl; few = omega arith }

module _ {t : List ℕ} {points lifts : List ℤ} {s : ℕ} {gone left : List ℕ} {v : Survey} (k : Surveying t points lifts s gone left v) where
  pub surveying_all : left ≡ [] → v ≡ survey_of t points lifts (walk (rotation t) s)
  surveying_all e = rw (← along_all k.along e) k.seen

  module _ {at : ℕ} {left' : List ℕ} (e : left ≡ at ∷ left') where
    pub surveying_lent : Lent t points lifts at
    surveying_lent = record { stands = along_stands k.along e; points_size = k.points_size; lifts_size = k.lifts_size }

    pub surveying_most : v.pieces ≤ most_before
    surveying_most = let few = k.few in let low = along_low k.along e in omega arith

    pub surveying_more : {w n : ℕ} {f : Bool} {v' : Survey} → EdgeWord t at w → n ≡ spots_on w → f ≡ far_step t points lifts at → v' ≡ survey_with v n f
        → Surveying t points lifts s (gone ++ at ∷ []) left' v'
    unfolding survey_with
    surveying_more {w} {n} {f} {v'} g a b c =
        let same : n ≡ spots_of t at = a ∙ ap spots_on g.word in
        let few = k.few in
        let here = spots_few_lem (along_stands k.along e) in
        let sum : v'.pieces ≡ v.pieces + n = ap (λ u. u.pieces) c in
        let size = length-append gone (at ∷ []) in
        record {
          along = along_more k.along e;
          points_size = k.points_size;
          lifts_size = k.lifts_size;
          seen = c ∙ rw (same, b, k.seen) (survey_more t points lifts gone at);
          few = omega arith;
        }
