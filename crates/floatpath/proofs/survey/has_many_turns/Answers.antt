-- `survey::has_many_turns` meets its contract: the crossings of the edge's word.
use Rattle.floatpath.specs.laws.Survey.{many_read}
use Rattle.floatpath.proofs.survey.has_many_turns.Goals as goal

pub returns : goal.returns
returns c = many_read c.edge_word.ensures c.crossings.ensures
