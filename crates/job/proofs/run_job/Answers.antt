-- `run_job` meets its contract: the empty mesh, the records, the last line, the report.
use Rattle.job.specs.laws.Report.{start_good, read_good, ended_early, handed_low, ended_line, ended_whole}
use Rattle.job.specs.Job.{fine}
use native.Mathlib.Omega.{arith}
use borrow.Author.Rules.{rules}
use mathlib.Core.Bool.{true}
use mathlib.Core.Path.{◌≡◌}
use Rattle.job.proofs.run_job.Goals as goal

pub read_job-p-requires : goal.read_job-p-requires
read_job-p-requires g c = start_good c.args.t.now c.requires c.empty.ensures.1

pub returns-then-eq : goal.returns-then-eq
returns-then-eq g c = ended_early c.args.t.now c.requires c.empty.ensures.1 c.read_job-p.ensures

pub overflow_add-job : goal.overflow_add-job
overflow_add-job g c = let low = handed_low c.args.t.now c.requires c.empty.ensures.1 c.read_job-p.ensures c.print_stop-line.ensures in
    omega arith

pub returns-then-not-line : goal.returns-then-not-line
returns-then-not-line g c = ended_line c.args.t.now c.requires c.empty.ensures.1 c.read_job-p.ensures c.print_stop-line.ensures

pub print_report-lines-requires : goal.print_report-lines-requires
print_report-lines-requires g c = read_good c.args.t.now c.requires c.empty.ensures.1 c.read_job-p.ensures

pub overflow_add-job-2 : goal.overflow_add-job-2
overflow_add-job-2 g c = let low = handed_low c.args.t.now c.requires c.empty.ensures.1 c.read_job-p.ensures c.print_stop-line.ensures in
    omega arith

pub returns : goal.returns
returns g c = let well : fine c.read_job-p.result.state ≡ true = search rules in
    ended_whole c.args.t.now c.requires c.empty.ensures.1 c.read_job-p.ensures c.print_stop-line.ensures well c.print_report-lines.ensures.0 c.print_report-lines.ensures.1
