-- `survey::survey_from` meets its contract. The invariant: the steps so far are surveyed.
use Rattle.tracing_walks.specs.laws.Steps.{steps_left}
use Rattle.floatpath.specs.laws.Survey.{Surveying}
use Rattle.floatpath.proofs.survey.survey_from.Given as goal

abbrev pub invariant-loop-at : goal.invariant-loop-at
invariant-loop-at l = Surveying l.t l.points l.lifts l.s l.yielded (steps_left l.at-iterator) l.seen
