-- `survey::with_step` meets its contract: the pieces added, and far if this step is or one before was.
use Rattle.wholepath.proofs.laws.Survey.{with_far, with_near}
use Rattle.wholepath.proofs.survey.with_step.Goals as goal

pub returns-then-far : goal.returns-then-far
returns-then-far c = with_far _ _ c.if-far.true

pub returns : goal.returns
returns c = with_near _ _ c.if-far.false
