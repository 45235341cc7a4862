-- `walk::lone_lines` meets its contract. The invariant: the lines of the isolated vertices below v are written.
use Rattle.report_lines.specs.laws.Walks.{LonesWriting}
use Rattle.report_lines.proofs.walk.lone_lines.Given as goal

abbrev pub invariant-loop-v : goal.invariant-loop-v
invariant-loop-v l = LonesWriting l.t l.from l.at l.first l.v l.i l.end l.initial.out l.out
