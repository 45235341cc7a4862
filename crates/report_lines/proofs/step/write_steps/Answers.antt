-- `step::write_steps` meets its contract. The invariant: the fields of the steps so far are written.
use Rattle.std.proofs.Common.{◌∙◌, ap}
use Rattle.tracing_walks.specs.laws.Along.{along_stands}
use Rattle.tracing_walks.specs.laws.Steps.{steps_left}
use Rattle.report_lines.specs.laws.Steps.{stepping_none, stepping_near, stepping_more, stepping_all}
use Rattle.report_lines.specs.laws.Wrote.{wrote_length}
use Rattle.report_lines.proofs.step.write_steps.Goals as goal

pub loop-here-init : goal.loop-here-init
loop-here-init c =
    stepping_none c.args.from c.args.at c.args.out.now c.requires.0
    (ap steps_left c.into_iter-here-iterator.ensures.into_iter_gives ∙ c.walk-here-items.ensures)

pub write_step-end-requires : goal.write_step-end-requires
write_step-end-requires c =
    let next = c.in-Some.ensures.steps in
    (along_stands c.loop-here.invariant.along next, stepping_near c.loop-here.invariant next c.requires.1)

pub loop-here-preserved : goal.loop-here-preserved
loop-here-preserved c = stepping_more c.loop-here.invariant c.in-Some.ensures.steps c.write_step-end.ensures

pub shape_of-out : goal.shape_of-out
shape_of-out c = wrote_length c.loop-here.invariant.wrote

pub returns : goal.returns
returns c = stepping_all c.loop-here.invariant c.in-None.ensures.steps.0
