-- `survey::survey_from` meets its contract. The invariant: the steps so far are surveyed.
use Rattle.std.proofs.Common.{◌∙◌, ap}
use Rattle.tracing_walks.specs.laws.Along.{along_stands}
use Rattle.tracing_walks.specs.laws.Steps.{steps_left}
use Rattle.wholepath.proofs.laws.Survey.{surveying_none, surveying_lent, surveying_most, surveying_more, surveying_all}
use Rattle.wholepath.proofs.survey.survey_from.Goals as goal

pub loop-at-init : goal.loop-at-init
loop-at-init c = surveying_none c.requires (ap steps_left c.into_iter-at-iterator.ensures.into_iter_gives ∙ c.walk-at-items.ensures)

pub edge_word-requires : goal.edge_word-requires
edge_word-requires c = along_stands c.loop-at.invariant.along c.in-Some.ensures.steps

pub is_far_step-far-requires : goal.is_far_step-far-requires
is_far_step-far-requires c = surveying_lent c.loop-at.invariant c.in-Some.ensures.steps

pub with_step-seen-requires : goal.with_step-seen-requires
with_step-seen-requires c = surveying_most c.loop-at.invariant c.in-Some.ensures.steps

pub loop-at-preserved : goal.loop-at-preserved
loop-at-preserved c = surveying_more c.loop-at.invariant c.in-Some.ensures.steps c.edge_word.ensures c.spots-n.ensures c.is_far_step-far.ensures c.with_step-seen.ensures

pub returns : goal.returns
returns c = surveying_all c.loop-at.invariant c.in-None.ensures.steps.0
