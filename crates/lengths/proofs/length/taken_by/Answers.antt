-- `length::taken_by` meets its contract: the edge's length, and the allowance for the O's that its word gives.
use Rattle.lengths.specs.laws.Summing.{taken_step}
use Rattle.lengths.proofs.length.taken_by.Goals as goal

pub returns : goal.returns
returns c = taken_step c.edge_length-l.ensures c.edge_word.ensures c.overs-o.ensures
