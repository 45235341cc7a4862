-- `step::mirror` meets its contract: it goes around the step's own dart.
use Rattle.tracing.specs.Step.{mirror}
use Rattle.tracing_walks.proofs.step.mirror.Goals as goal

pub returns : goal.returns
unfolding mirror
returns c = c.around.ensures
