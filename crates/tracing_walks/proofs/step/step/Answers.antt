-- `step::step` meets its contract: the reverse of a live dart is live, and the type does not overflow.
use Rattle.tracing_walks.specs.laws.Stands.{near, stands_dart, stands_rev}
use Rattle.tracing.specs.Step.{step, step_type}
use Rattle.table.specs.Rotation.{turns_of}
use native.Mathlib.Omega.{arith}
use Rattle.tracing_walks.proofs.step.step.Goals as goal

pub bounds-t-d : goal.bounds-t-d
bounds-t-d c = let n = near (stands_dart c.requires) in omega arith

pub overflow_add-k-2 : goal.overflow_add-k-2
overflow_add-k-2 c = let n = near (stands_dart c.requires) in omega arith

pub around-requires : goal.around-requires
around-requires c = stands_rev c.requires

pub returns : goal.returns
unfolding step step_type turns_of
returns c = c.around.ensures
