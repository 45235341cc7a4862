-- `count::mark_walk` meets its contract. The invariant: the corners of the steps so far are marked, and n is how many they are.
use Rattle.std.proofs.Common.{◌∙◌, refl, ap, arith, length-append}
use Rattle.tracing_walks.specs.laws.Size.{marking_none, marking_more, marking_count, marking_corner}
use Rattle.tracing_walks.specs.laws.Along.{along_stands, along_low}
use Rattle.tracing_walks.specs.laws.Steps.{steps_left}
use Rattle.tracing_walks.proofs.count.mark_walk.Goals as goal

pub loop-at-init : goal.loop-at-init
loop-at-init c = (marking_none c.requires.0 c.requires.1 (ap steps_left c.into_iter-at-iterator.ensures.into_iter_gives ∙ c.walk-at-items.ensures), refl)

pub corner-c-requires : goal.corner-c-requires
corner-c-requires c = along_stands c.loop-at.invariant.0.along c.in-Some.ensures.steps

pub bounds-met-c : goal.bounds-met-c
bounds-met-c c = marking_corner c.loop-at.invariant.0 c.in-Some.ensures.steps c.corner-c.ensures

pub overflow_add-n : goal.overflow_add-n
overflow_add-n c = let low = along_low c.loop-at.invariant.0.along c.in-Some.ensures.steps in omega arith

pub loop-at-preserved : goal.loop-at-preserved
loop-at-preserved c = (marking_more c.loop-at.invariant.0 c.in-Some.ensures.steps c.corner-c.ensures, rw (length-append, c.loop-at.invariant.1) refl)

pub returns : goal.returns
returns c = marking_count c.loop-at.invariant.0 c.in-None.ensures.steps.0 c.loop-at.invariant.1
