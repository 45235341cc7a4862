-- `run::run_record` meets its contract: the table that the edit leaves, and a line if it was declined.
use Rattle.records.specs.laws.Running.{line_done, line_declined}
use Rattle.edits.proofs.laws.Rules.{answer_in, answers_in}
use mathlib.Core.Path.{ap}
use Rattle.records.proofs.run.run_record.Goals as goal

pub returns-in-Ok : goal.returns-in-Ok
returns-in-Ok c = (c.apply.ensures.1, line_done _ _ _ (answers_in _ _ c.apply.ensures.0) _ (ap answer_in c.in-Ok.is))

pub returns-in-Err : goal.returns-in-Err
returns-in-Err c = (c.apply.ensures.1, line_declined _ _ _ (answers_in _ _ c.apply.ensures.0) (ap answer_in c.in-Err.is) c.number_of.ensures c.no_line.ensures)
