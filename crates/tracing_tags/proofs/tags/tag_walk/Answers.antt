-- `tags::tag_walk` meets its contract. The invariant: the corners of the steps so far are tagged.
use Rattle.std.proofs.Common.{◌∙◌, ap, arith}
use Rattle.tracing_walks.specs.laws.Stands.{stands_low}
use Rattle.tracing_walks.specs.laws.Along.{along_stands}
use Rattle.tracing_walks.specs.laws.Steps.{steps_left}
use Rattle.tracing_tags.specs.laws.Tags.{tagging_none, tagging_corner, tagging_more, tagging_all}
use Rattle.tracing_tags.proofs.tags.tag_walk.Goals as goal

pub loop-at-init : goal.loop-at-init
loop-at-init c = tagging_none c.requires.0 c.requires.1 (ap steps_left c.into_iter-at-iterator.ensures.into_iter_gives ∙ c.walk-at-items.ensures)

pub corner-c-requires : goal.corner-c-requires
corner-c-requires c = along_stands c.loop-at.invariant.along c.in-Some.ensures.steps

pub overflow_add-tags : goal.overflow_add-tags
overflow_add-tags c = let low = stands_low c.requires.0 in omega arith

pub offset_bounds-tags-c : goal.offset_bounds-tags-c
offset_bounds-tags-c c = let low = tagging_corner c.loop-at.invariant c.in-Some.ensures.steps c.corner-c.ensures in omega arith

pub bounds-tags-c : goal.bounds-tags-c
bounds-tags-c c = tagging_corner c.loop-at.invariant c.in-Some.ensures.steps c.corner-c.ensures

pub loop-at-preserved : goal.loop-at-preserved
loop-at-preserved c = tagging_more c.loop-at.invariant c.in-Some.ensures.steps c.corner-c.ensures

pub returns : goal.returns
returns c = tagging_all c.loop-at.invariant c.in-None.ensures.steps.0
