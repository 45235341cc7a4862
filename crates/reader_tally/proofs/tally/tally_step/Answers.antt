-- `tally::tally_step` meets its contract: the letters and the length of the step, and then whether the tally goes past 32 bits.
use Rattle.weave_letters.specs.laws.Counts.{unders_left}
use Rattle.reader_tally.proofs.laws.Forward.{tally_forward}
use native.Mathlib.Omega.{arith}
use Rattle.reader_tally.proofs.tally.tally_step.Goals as goal

pub overflow_sub-u : goal.overflow_sub-u
overflow_sub-u c = let few = (unders_left _ _ c.crossings.ensures c.overs-o.ensures (omega arith)).0 in omega arith

pub returns : goal.returns
returns c = tally_forward _ _ _ _ c.edge_length-l.ensures c.edge_word-w.ensures c.crossings.ensures c.overs-o.ensures c.forward.ensures
