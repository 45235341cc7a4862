-- `mesh::one_edge` meets its contract.
use Rattle.surface_calls.specs.laws.Mesh.{edge_yes, edge_no}
use Rattle.surface_calls.proofs.mesh.one_edge.Goals as goal

pub returns-then-t-e-eq0 : goal.returns-then-t-e-eq0
returns-then-t-e-eq0 c = edge_no c.args.t.now c.args.e c.if-t-e-eq0.true

pub returns : goal.returns
returns c = edge_yes c.args.t.now c.args.e c.requires.1 c.if-t-e-eq0.false
