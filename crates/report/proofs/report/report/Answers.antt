-- `report::report` meets its contract: the lines, one after the other.
use Rattle.report.specs.laws.Whole.{report_wrote}
use Rattle.report.proofs.report.report.Goals as goal

pub returns : goal.returns
returns c = report_wrote c.mesh_line-mesh.ensures c.part_lines-parts.ensures c.walk_lines-walks.ensures c.lone_lines-lones.ensures c.weave_line.ensures
