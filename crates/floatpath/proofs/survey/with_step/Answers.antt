-- `survey::with_step` meets its contract: one step more, and each of the two flags or the new one.
use Rattle.floatpath.specs.laws.Survey.{with_made}
use Rattle.floatpath.proofs.survey.with_step.Goals as goal

pub returns : goal.returns
returns c = with_made _ _ _ c.either-a.ensures c.either-b.ensures
