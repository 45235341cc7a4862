-- `listing::write_walk` meets its contract. The invariant: the steps so far are written.
use Rattle.std.specs.Prelude.{map}
use Rattle.std.specs.Iterator.Adapters.{enumerate_source, enumerate_count}
use Rattle.tracing_walks.specs.laws.Steps.{steps_left}
use Rattle.tracing_listing.specs.laws.Writing.{Stepping}
use Rattle.tracing_listing.proofs.listing.write_walk.Given as goal

abbrev pub invariant-loop-n : goal.invariant-loop-n
invariant-loop-n l = Stepping l.t l.s l.start l.initial.out (map (λ p. p.1) l.yielded) (steps_left (enumerate_source l.n-iterator)) (enumerate_count l.n-iterator) l.out
