-- `path::path_size` meets its contract: a return for each refusal in its order: five short slices, then far.
use Rattle.wholepath.proofs.laws.WholePath.{short_points, short_lifts, survey_few, short_forms, short_coords, short_rests, far_away, path_sized}
use native.Mathlib.Omega.{arith}
use Rattle.wholepath.proofs.path.path_size.Goals as goal

pub returns-then-points-lt-POINTS : goal.returns-then-points-lt-POINTS
returns-then-points-lt-POINTS c = short_points _ _ _ _ _ _ _ c.if-points-lt-POINTS.true

pub returns-then-lifts-lt-LIFTS : goal.returns-then-lifts-lt-LIFTS
returns-then-lifts-lt-LIFTS c = short_lifts _ _ _ _ _ _ _ c.if-points-lt-POINTS.false c.if-lifts-lt-LIFTS.true

pub overflow_add-pieces : goal.overflow_add-pieces
overflow_add-pieces c = let few = survey_few _ _ c.requires c.survey_from-seen.ensures in omega arith

pub overflow_mul-words : goal.overflow_mul-words
overflow_mul-words c = let few = survey_few _ _ c.requires c.survey_from-seen.ensures in omega arith

pub returns-then-forms-pieces : goal.returns-then-forms-pieces
returns-then-forms-pieces c = short_forms _ _ _ _ _ _ _ c.if-points-lt-POINTS.false c.if-lifts-lt-LIFTS.false c.survey_from-seen.ensures c.if-forms-pieces.true

pub returns-then-coords-words : goal.returns-then-coords-words
returns-then-coords-words c = short_coords _ _ _ _ _ _ _ c.if-points-lt-POINTS.false c.if-lifts-lt-LIFTS.false c.survey_from-seen.ensures c.if-forms-pieces.false c.if-coords-words.true

pub returns-then-remainders-words : goal.returns-then-remainders-words
returns-then-remainders-words c = short_rests _ _ _ _ _ _ _ c.if-points-lt-POINTS.false c.if-lifts-lt-LIFTS.false c.survey_from-seen.ensures c.if-forms-pieces.false c.if-coords-words.false c.if-remainders-words.true

pub returns-then-seen : goal.returns-then-seen
returns-then-seen c = far_away _ _ _ _ _ _ _ c.if-points-lt-POINTS.false c.if-lifts-lt-LIFTS.false c.survey_from-seen.ensures c.if-forms-pieces.false c.if-coords-words.false c.if-remainders-words.false c.if-seen.true

pub overflow_cast-result : goal.overflow_cast-result
overflow_cast-result c = let few = survey_few _ _ c.requires c.survey_from-seen.ensures in omega arith

pub returns : goal.returns
returns c = path_sized _ _ _ _ _ _ _ c.if-points-lt-POINTS.false c.if-lifts-lt-LIFTS.false c.survey_from-seen.ensures c.if-forms-pieces.false c.if-coords-words.false c.if-remainders-words.false c.if-seen.false
