-- `walk::walk_line` meets its contract: no walk starts at the dart, or one, whose line is written.
use Rattle.report_lines.specs.laws.Walks.{placed_none, placed_walk, placed_one}
use Rattle.report_lines.proofs.walk.walk_line.Goals as goal

pub returns-in_default : goal.returns-in_default
returns-in_default c = placed_none c.args.out.now c.look.ensures c.in_default.not-Some

pub write_walk-end-requires : goal.write_walk-end-requires
write_walk-end-requires c = placed_walk c.requires c.in-Some.ensures

pub returns : goal.returns
returns c = placed_one c.in-Some.ensures c.write_walk-end.ensures
