-- `tags::tag_walk` meets its contract. The invariant: the corners of the steps so far are tagged.
use Rattle.tracing_walks.specs.laws.Steps.{steps_left}
use Rattle.tracing_tags.specs.laws.Tags.{Tagging}
use Rattle.tracing_tags.proofs.tags.tag_walk.Given as goal

abbrev pub invariant-loop-at : goal.invariant-loop-at
invariant-loop-at l = Tagging l.t l.s l.initial.tags l.yielded (steps_left l.at-iterator) l.tags
