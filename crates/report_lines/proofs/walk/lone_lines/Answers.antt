-- `walk::lone_lines` meets its contract. The invariant: the lines of the isolated vertices below v are written.
use Rattle.report_lines.specs.laws.Walks.{ending_none, ending_at, ending_more, ending_all}
use Rattle.report_lines.specs.laws.Wrote.{wrote_length}
use Rattle.report_lines.proofs.walk.lone_lines.Goals as goal

pub loop-v-init : goal.loop-v-init
loop-v-init c = ending_none c.args.t.now c.args.from c.args.at c.args.first c.args.out.now

pub lone_line-placed-requires : goal.lone_line-placed-requires
lone_line-placed-requires c = ending_at c.requires.0 c.requires.1 c.requires.2 c.loop-v.invariant c.loop-v-test.true

pub loop-v-preserved : goal.loop-v-preserved
loop-v-preserved c = ending_more c.loop-v.invariant c.loop-v-test.true c.lone_line-placed.ensures

pub shape_of-out : goal.shape_of-out
shape_of-out c = wrote_length c.loop-v.invariant.wrote

pub returns : goal.returns
returns c = ending_all c.loop-v.invariant c.loop-v-test.false
