-- `count::isolated` meets its contract. The invariant: n of the vertices below v are isolated.
use Rattle.tracing_walks.specs.laws.Size.{Lone}
use Rattle.tracing_walks.proofs.count.isolated.Given as goal

abbrev pub invariant-loop-v : goal.invariant-loop-v
invariant-loop-v l = Lone l.t l.v l.n
