-- `mesh::one_root` meets its contract, a return for each case: no vertex, a larger one of its part, the smallest.
use Rattle.surface_calls.specs.laws.Mesh.{root_none, root_other, root_yes}
use Rattle.surface_calls.proofs.mesh.one_root.Goals as goal

pub returns-then-t-v : goal.returns-then-t-v
returns-then-t-v c = root_none c.args.t.now c.requires.0 c.args.v c.requires.1 c.if-t-v.true

pub returns-then-up-v : goal.returns-then-up-v
returns-then-up-v c = root_other c.args.t.now c.requires.0 c.args.v c.requires.1 c.if-up-v.true

pub returns : goal.returns
returns c = root_yes c.args.t.now c.requires.0 c.args.v c.requires.1 c.if-t-v.false c.if-up-v.false
