-- `print_report` meets its contract. The invariant: the first `from` bytes of the report are handed over. The measure is what is left of it.
use Rattle.job.specs.laws.Report.{Showing}
use Rattle.report_lines.specs.Lines.{report}
use lib.ListN.{length}
use Prim.Native.Nat.{◌-◌}
use Rattle.job.proofs.print_report.Given as goal

abbrev pub invariant-loop-out : goal.invariant-loop-out
invariant-loop-out g l = Showing l.t l.out l.from

abbrev pub decreases-loop-out : goal.decreases-loop-out
decreases-loop-out g l = length (report l.t) - l.from
