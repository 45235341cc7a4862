-- `write_job` meets its contract: the call goes through, and answers the size of the job.
use Rattle.trial.specs.laws.Program.{job_laid}
use Rattle.trial.proofs.write_job.Goals as goal

pub returns-in-Ok : goal.returns-in-Ok
returns-in-Ok c = job_laid c.args.order.start c.args.order.edges c.args.out.now c.requires.0 c.requires.1 c.trial_job.ensures c.in-Ok.is
