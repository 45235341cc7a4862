-- `walk::write_walk` meets its contract: the word, the index, the number of steps and the steps.
use Rattle.report_lines.specs.laws.Walks.{walk_wrote}
use Rattle.report_lines.proofs.walk.write_walk.Goals as goal

pub returns : goal.returns
returns c = walk_wrote c.args.i c.requires c.bytes-word.ensures c.field-index.ensures c.field-count.ensures c.write_steps-end.ensures c.byte.ensures
