-- `make` meets its contract: a job that is asked for has few edges, and its line is empty.
use Rattle.trial.specs.laws.Program.{outcome_few, few_as, laid_none, laid_as}
use Rattle.trial.specs.Program.{output_of, message}
use mathlib.Core.Path.{sym, ap}
use Rattle.trial.proofs.make.Goals as goal

pub write_job-requires : goal.write_job-requires
write_job-requires c = (few_as (sym c.in-Ok.ensures) (outcome_few _ _ _), c.requires.0)

pub returns-in-Ok : goal.returns-in-Ok
unfolding message
returns-in-Ok c = (laid_as c.write_job.ensures (ap output_of c.in-Ok.ensures), laid_none _ _ (ap message (sym c.in-Ok.ensures)))
