-- `job::write_job` meets its contract. The invariant: the records of the first e edges, the state after their draws, the corners of the table that they leave.
use Rattle.trial_make.specs.laws.Making.{Underway}
use Rattle.trial_make.proofs.job.write_job.Given as goal

abbrev pub invariant-loop-e : goal.invariant-loop-e
invariant-loop-e l = Underway l.start l.n l.initial.out l.initial.corners l.e l.s l.out l.corners
