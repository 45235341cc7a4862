-- `mesh::one_vertex` meets its contract.
use Rattle.surface_calls.specs.laws.Mesh.{vertex_yes, vertex_no}
use Rattle.surface_calls.proofs.mesh.one_vertex.Goals as goal

pub returns-then-t-v : goal.returns-then-t-v
returns-then-t-v c = vertex_no c.args.t.now c.args.v c.if-t-v.true

pub returns : goal.returns
returns c = vertex_yes c.args.t.now c.args.v c.requires.1 c.if-t-v.false
