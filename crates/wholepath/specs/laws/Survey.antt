-- What a survey of steps gives.
use Rattle.std.specs.Prelude.{ℕ, ◌+◌, Bool, ◌||◌, List, ℤ}
use Rattle.tracing.specs.Met.{total}
use Rattle.weave.specs.Ribbon.{some}
use Rattle.floatpath_pieces.specs.Path.{far_step}
use Rattle.wholepath_pieces.specs.Pieces.{spots_of}
use Rattle.wholepath.specs.declared.survey.Survey.{Survey}

-- of these steps
unfoldable pub survey_of : List ℕ → List ℤ → List ℤ → List ℕ → Survey
survey_of t points lifts l = record { pieces = total (spots_of t) l; far = some (far_step t points lifts) l }

-- with one step more
unfoldable pub survey_with : Survey → ℕ → Bool → Survey
survey_with v n f = record { pieces = v.pieces + n; far = v.far || f }

-- 99 pieces for each step but the last
abbrev pub most_before : ℕ
most_before = 405405
