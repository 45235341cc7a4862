-- `ribbon::write_step` meets its contract. The invariant: the letters of the first j crossings are written.
use Rattle.weave_letters.specs.laws.Crossing.{Crossing}
use Rattle.weave_letters.proofs.ribbon.write_step.Given as goal

abbrev pub invariant-loop-j : goal.invariant-loop-j
invariant-loop-j l = Crossing l.w l.kind l.start l.n l.j l.initial.out l.out
