-- `plain::alternate_in` meets its contract. The invariant: the ribbons listed from the darts below d alternate, and their corners are marked.
use Rattle.weave_plain.specs.laws.Plain.{Judging}
use Rattle.weave_plain.proofs.plain.alternate_in.Given as goal

abbrev pub invariant-loop-d : goal.invariant-loop-d
invariant-loop-d l = Judging l.t l.d l.met
