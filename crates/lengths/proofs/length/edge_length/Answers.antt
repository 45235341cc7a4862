-- `length::edge_length` meets its contract: the word of the edge.
use Rattle.tracing_walks.specs.laws.Stands.{stands_low}
use mathlib.Core.Path.{refl}
use native.Mathlib.Omega.{arith}
use Rattle.lengths.proofs.length.edge_length.Goals as goal

pub bounds-t-s : goal.bounds-t-s
bounds-t-s c = let low = stands_low c.requires in omega arith

pub returns : goal.returns
returns c = refl
