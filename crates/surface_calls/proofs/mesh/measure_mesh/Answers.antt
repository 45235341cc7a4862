-- `mesh::measure_mesh` meets its contract: labels, then the counts.
use Rattle.surface_calls.specs.laws.Mesh.{mesh_counts}
use Rattle.tracing.proofs.laws.FaceCount.{faces_low}
use Rattle.surface_counts.specs.laws.Tally.{labelled_keyed}
use Rattle.table.specs.laws.Lawful.{good_lawful}
use native.Mathlib.Omega.{arith}
use Rattle.surface_calls.proofs.mesh.measure_mesh.Goals as goal

pub roots-p-requires : goal.roots-p-requires
roots-p-requires c = labelled_keyed c.requires c.label_parts.ensures

pub overflow_cast-f : goal.overflow_cast-f
overflow_cast-f c = let l = faces_low (good_lawful c.args.t.now c.requires) in omega arith

pub returns : goal.returns
returns c = mesh_counts (good_lawful c.args.t.now c.requires) c.live_vertices-v.ensures c.live_edges-e.ensures c.face_count-f.ensures c.roots-p.ensures
    c.euler-x.ensures
