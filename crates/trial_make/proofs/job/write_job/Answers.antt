-- `job::write_job` meets its contract. The invariant: the records of the first e edges, the state after their draws, the corners of the table that they leave.
use Rattle.trial_make.specs.laws.Making.{Begun, making_none, making_more, making_all}
use Rattle.trial_make.proofs.job.write_job.Goals as goal

pub loop-e-init : goal.loop-e-init
loop-e-init c = λ old b. making_none _ b

pub loop-e-preserved : goal.loop-e-preserved
loop-e-preserved c = λ old begun.
    making_more (c.loop-e.invariant old begun) c.loop-e-test.true c.write_edge-s.ensures.0 c.write_edge-s.ensures.1 c.write_edge-s.ensures.2

pub returns : goal.returns
returns c = let begun : Begun _ _ _ _ = record { few = c.requires.0; room = c.requires.1; vertices = c.write_vertices.ensures } in
    making_all (c.loop-e.invariant _ begun) c.loop-e-test.false
