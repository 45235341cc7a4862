-- `job::write_vertices` meets its contract. The invariant: the records of the first v vertices, each with its own corner.
use Rattle.trial_make.specs.laws.Making.{Vertices}
use Rattle.trial_make.proofs.job.write_vertices.Given as goal

abbrev pub invariant-loop-v : goal.invariant-loop-v
invariant-loop-v l = Vertices l.initial.out l.v l.out l.corners
