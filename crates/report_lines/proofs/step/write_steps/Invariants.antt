-- `step::write_steps` meets its contract. The invariant: the fields of the steps so far are written.
use Rattle.tracing_walks.specs.laws.Steps.{steps_left}
use Rattle.report_lines.specs.laws.Steps.{StepsWriting}
use Rattle.report_lines.proofs.step.write_steps.Given as goal

abbrev pub invariant-loop-here : goal.invariant-loop-here
invariant-loop-here l = StepsWriting l.t l.s l.from l.at l.yielded (steps_left l.here-iterator) l.end l.initial.out l.out
