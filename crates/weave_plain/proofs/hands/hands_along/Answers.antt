-- `hands::hands_along` meets its contract. The invariant: the hands of the edges so far are seen.
use Rattle.std.proofs.Common.{◌∙◌, ap}
use Rattle.tracing_walks.specs.laws.Along.{along_stands}
use Rattle.tracing_walks.specs.laws.Steps.{steps_left}
use Rattle.weave_plain.specs.laws.Hands.{seeing_none, seeing_more, seeing_all}
use Rattle.weave_plain.proofs.hands.hands_along.Goals as goal

pub loop-at-init : goal.loop-at-init
loop-at-init c = seeing_none c.requires (ap steps_left c.into_iter-at-iterator.ensures.into_iter_gives ∙ c.walk-at-items.ensures)

pub edge_word-w-requires : goal.edge_word-w-requires
edge_word-w-requires c = along_stands c.loop-at.invariant.along c.in-Some.ensures.steps

pub loop-at-preserved : goal.loop-at-preserved
loop-at-preserved c = seeing_more c.loop-at.invariant c.in-Some.ensures.steps c.edge_word-w.ensures c.with_edge-seen.ensures

pub returns : goal.returns
returns c = seeing_all c.loop-at.invariant c.in-None.ensures.steps.0
