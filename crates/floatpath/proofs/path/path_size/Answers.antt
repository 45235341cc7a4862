-- `path::path_size` meets its contract, a return for each refusal in its order: four short slices, many turns, far.
use Rattle.floatpath.specs.laws.PathCall.{short_points, short_lifts, survey_few, short_forms, short_coords, many_turns_lem, far_away, path_sized}
use native.Mathlib.Omega.{arith}
use Rattle.floatpath.proofs.path.path_size.Goals as goal

pub returns-then-points-lt-POINTS : goal.returns-then-points-lt-POINTS
returns-then-points-lt-POINTS c = short_points _ _ _ _ _ _ c.if-points-lt-POINTS.true

pub returns-then-lifts-lt-LIFTS : goal.returns-then-lifts-lt-LIFTS
returns-then-lifts-lt-LIFTS c = short_lifts _ _ _ _ _ _ c.if-points-lt-POINTS.false c.if-lifts-lt-LIFTS.true

pub overflow_add-pieces : goal.overflow_add-pieces
overflow_add-pieces c = let few = survey_few (record { stands = c.requires; points_size = c.if-points-lt-POINTS.false; lifts_size = c.if-lifts-lt-LIFTS.false }) c.survey_from-seen.ensures in omega arith

pub returns-then-forms-pieces : goal.returns-then-forms-pieces
returns-then-forms-pieces c = short_forms _ _ _ _ _ _ c.if-points-lt-POINTS.false c.if-lifts-lt-LIFTS.false c.survey_from-seen.ensures c.if-forms-pieces.true

pub overflow_mul-pieces : goal.overflow_mul-pieces
overflow_mul-pieces c = let few = survey_few (record { stands = c.requires; points_size = c.if-points-lt-POINTS.false; lifts_size = c.if-lifts-lt-LIFTS.false }) c.survey_from-seen.ensures in omega arith

pub returns-then-coords-pieces : goal.returns-then-coords-pieces
returns-then-coords-pieces c = short_coords _ _ _ _ _ _ c.if-points-lt-POINTS.false c.if-lifts-lt-LIFTS.false c.survey_from-seen.ensures c.if-forms-pieces.false c.if-coords-pieces.true

pub returns-then-seen : goal.returns-then-seen
returns-then-seen c = many_turns_lem _ _ _ _ _ _ c.if-points-lt-POINTS.false c.if-lifts-lt-LIFTS.false c.survey_from-seen.ensures c.if-forms-pieces.false c.if-coords-pieces.false c.if-seen.true

pub returns-then-seen-2 : goal.returns-then-seen-2
returns-then-seen-2 c = far_away _ _ _ _ _ _ c.if-points-lt-POINTS.false c.if-lifts-lt-LIFTS.false c.survey_from-seen.ensures c.if-forms-pieces.false c.if-coords-pieces.false c.if-seen.false c.if-seen-2.true

pub overflow_cast-result : goal.overflow_cast-result
overflow_cast-result c = let few = survey_few (record { stands = c.requires; points_size = c.if-points-lt-POINTS.false; lifts_size = c.if-lifts-lt-LIFTS.false }) c.survey_from-seen.ensures in omega arith

pub returns : goal.returns
returns c = path_sized _ _ _ _ _ _ c.if-points-lt-POINTS.false c.if-lifts-lt-LIFTS.false c.survey_from-seen.ensures c.if-forms-pieces.false c.if-coords-pieces.false c.if-seen.false c.if-seen-2.false
