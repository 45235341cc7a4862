-- `walk::walk_lines` meets its contract. The invariant: the lines of the walks that start below d are written, and their corners are marked.
use Rattle.report_lines.specs.laws.Walks.{Numbering}
use Rattle.report_lines.proofs.walk.walk_lines.Given as goal

abbrev pub invariant-loop-d : goal.invariant-loop-d
invariant-loop-d l = Numbering l.t l.from l.at l.d l.i l.end l.met l.initial.out l.out
