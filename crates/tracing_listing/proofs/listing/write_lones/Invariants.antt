-- `listing::write_lones` meets its contract. The invariant: the empty walks of the vertices below v are written.
use Rattle.tracing_listing.specs.laws.Writing.{Ending}
use Rattle.tracing_listing.proofs.listing.write_lones.Given as goal

abbrev pub invariant-loop-v : goal.invariant-loop-v
invariant-loop-v l = Ending l.t l.v l.start l.at l.initial.out l.out
