-- `walk::lone_line` meets its contract: the vertex is isolated, or it is not.
use Rattle.report_lines.specs.laws.Walks.{lone_none, lone_one}
use Rattle.report_lines.proofs.walk.lone_line.Goals as goal

pub returns-then-t-v : goal.returns-then-t-v
returns-then-t-v c = lone_none c.requires c.args.from c.args.out.now c.if-t-v.true

pub returns : goal.returns
returns c = lone_one c.requires c.if-t-v.false c.write_lone-end.ensures
