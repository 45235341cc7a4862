-- `walk::walk_lines` meets its contract. The invariant: the lines of the walks that start below d are written, and their corners are marked.
use Rattle.report_lines.specs.laws.Walks.{numbering_none, numbering_at, numbering_more, numbering_all}
use Rattle.report_lines.specs.laws.Wrote.{wrote_length}
use Rattle.report_lines.proofs.walk.walk_lines.Goals as goal

pub loop-d-init : goal.loop-d-init
loop-d-init c = numbering_none c.args.from c.args.at c.args.out.now c.requires.0

pub walk_line-placed-requires : goal.walk_line-placed-requires
walk_line-placed-requires c = numbering_at c.requires.1 c.loop-d.invariant c.loop-d-test.true

pub loop-d-preserved : goal.loop-d-preserved
loop-d-preserved c = numbering_more c.loop-d.invariant c.loop-d-test.true c.walk_line-placed.ensures

pub shape_of-out : goal.shape_of-out
shape_of-out c = wrote_length c.loop-d.invariant.wrote

pub returns : goal.returns
returns c = numbering_all c.loop-d.invariant c.loop-d-test.false
