-- What the walk of a ribbon shows before its path is written: the number of its steps, and what is wrong with its edges. The loop that gathers it.
--     survey_of, survey_with, with_made                the survey of some steps; with one step more
--     many_read                                        more than one turn, by the number of crossings
--     Surveying                                        the loop over the walk
--     surveying_none, surveying_more, surveying_all    it begins, goes on, ends
--     surveying_lent, surveying_few                    the present step's words are there; there are few steps
use Rattle.std.specs.Prelude.{ℕ, ◌+◌, ◌<◌, ◌≤◌, ◌≡◌, refl, Bool, false, ◌||◌, List, [], ◌∷◌, ◌++◌, ltb, ℤ, length}
use Rattle.std.proofs.Common.{◌∙◌, ap, length-append}
use Rattle.std.proofs.Math.Bool.{or-false}
use Rattle.table.specs.Rotation.{rotation}
use Rattle.tracing.specs.Step.{steps}
use Rattle.tracing.specs.Walk.{walk}
use Rattle.tracing_walks.specs.laws.Along.{Along, along_none, along_more, along_all, along_stands, along_low}
use Rattle.weave.specs.Letters.{crossings}
use Rattle.weave_letters.specs.laws.Crossing.{EdgeWord}
use Rattle.weave.specs.Ribbon.{some}
use Rattle.weave.proofs.laws.Ribbon.{some_append}
use Rattle.floatpath.specs.declared.survey.Survey.{Survey}
use Rattle.floatpath_pieces.specs.Path.{point_words, lift_words, many_turns, far_step}
use Rattle.floatpath_pieces.specs.laws.Places.{Lent}

-- of these steps
unfoldable pub survey_of : List ℕ → List ℤ → List ℤ → List ℕ → Survey
survey_of t points lifts l = record { steps = length l; many = some (many_turns t) l; far = some (far_step t points lifts) l }

-- with one step more
unfoldable pub survey_with : Survey → Bool → Bool → Survey
survey_with v m f = record { steps = v.steps + 1; many = v.many || m; far = v.far || f }

pub with_made : (v : Survey) (m f : Bool) {a b : Bool} → a ≡ (v.many || m) → b ≡ (v.far || f) → record { steps = v.steps + 1; many = a; far = b } ≡ survey_with v m f
unfolding survey_with
with_made v m f e g = rw (e, g)

pub many_read : {t : List ℕ} {s w c : ℕ} → EdgeWord t s w → c ≡ crossings w → ltb 1 c ≡ many_turns t s
many_read e f = ap (ltb 1) (f ∙ ap crossings e.word)

module _ (t : List ℕ) (points lifts : List ℤ) (l : List ℕ) (x : ℕ) where
  survey_more : survey_with (survey_of t points lifts l) (many_turns t x) (far_step t points lifts x) ≡ survey_of t points lifts (l ++ (x ∷ []))
  unfolding survey_with survey_of some
  survey_more =
      rw (length-append, some_append (many_turns t) l (x ∷ []), some_append (far_step t points lifts) l (x ∷ []), or-false (many_turns t x), or-false (far_step t points lifts x))

-- the loop over the walk
pub record Surveying (t : List ℕ) (points lifts : List ℤ) (s : ℕ) (gone left : List ℕ) (v : Survey) : Type 0 where
  pub along : Along t s gone left
  pub points_size : point_words ≤ length points
  pub lifts_size : lift_words ≤ length lifts
  pub seen : v ≡ survey_of t points lifts gone

pub surveying_none : {t : List ℕ} {points lifts : List ℤ} {s : ℕ} {left : List ℕ} → Lent t points lifts s → left ≡ walk (rotation t) s
    → Surveying t points lifts s [] left (record { steps = 0; many = false; far = false })
unfolding survey_of some
surveying_none k e = record { along = along_none k.stands e; points_size = k.points_size; lifts_size = k.lifts_size; seen = refl }

module _ {t : List ℕ} {points lifts : List ℤ} {s : ℕ} {gone left : List ℕ} {v : Survey} (k : Surveying t points lifts s gone left v) where
  pub surveying_all : left ≡ [] → v ≡ survey_of t points lifts (walk (rotation t) s)
  surveying_all e = rw (← along_all k.along e) k.seen

  module _ {at : ℕ} {left' : List ℕ} (e : left ≡ at ∷ left') where
    pub surveying_lent : Lent t points lifts at
    surveying_lent = record { stands = along_stands k.along e; points_size = k.points_size; lifts_size = k.lifts_size }

    pub surveying_few : v.steps < steps
    unfolding survey_of
    surveying_few = rw k.seen (along_low k.along e)

    pub surveying_more : {m f : Bool} {v' : Survey} → m ≡ many_turns t at → f ≡ far_step t points lifts at → v' ≡ survey_with v m f → Surveying t points lifts s (gone ++ at ∷ []) left' v'
    surveying_more a b c = record {
      along = along_more k.along e;
      points_size = k.points_size;
      lifts_size = k.lifts_size;
      seen = c ∙ rw (a, b, k.seen) (survey_more t points lifts gone at);
    }
