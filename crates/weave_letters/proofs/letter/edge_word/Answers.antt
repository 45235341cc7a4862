-- `letter::edge_word` meets its contract: the word of a live edge, between 1 and 199.
use native.Mathlib.Omega.{arith}
use Rattle.tracing_walks.specs.laws.Stands.{near, stands_dart}
use Rattle.weave_letters.specs.laws.Crossing.{edge_read}
use Rattle.weave_letters.proofs.letter.edge_word.Goals as goal

pub bounds-t-s : goal.bounds-t-s
bounds-t-s c = let n = near (stands_dart c.requires) in omega arith

pub returns : goal.returns
returns c = edge_read c.requires
