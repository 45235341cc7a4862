-- `count::measure_in` meets its contract. The invariant: the walks that start below d are counted, and their corners marked.
use Rattle.tracing_walks.specs.laws.Size.{WalkCounting}
use Rattle.tracing_walks.proofs.count.measure_in.Given as goal

abbrev pub invariant-loop-d : goal.invariant-loop-d
invariant-loop-d l = WalkCounting l.t l.d l.walks l.words l.met
