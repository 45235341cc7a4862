-- `count::measure` meets its contract. The invariant: the walks that start below block b are counted, and their corners marked.
use Rattle.tracing_walks.specs.laws.Size.{WalkCounting}
use Prim.Native.Nat.{◌*◌}
use Rattle.tracing_walks.proofs.count.measure.Given as goal

abbrev pub invariant-loop-b : goal.invariant-loop-b
invariant-loop-b l = WalkCounting l.t (64 * l.b) l.size.walks l.size.words l.met
