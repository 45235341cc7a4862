-- `listing::write_walks` meets its contract. The invariant: the walks that start below d stand at the front, and their corners are marked.
use Rattle.tracing_listing.specs.laws.Writing.{Writing}
use Rattle.tracing_listing.proofs.listing.write_walks.Given as goal

abbrev pub invariant-loop-d : goal.invariant-loop-d
invariant-loop-d l = Writing l.t l.d l.at l.met l.initial.out l.out
