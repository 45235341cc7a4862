-- `writing::write_step` meets its contract. The invariant: the first i pieces of the step are written.
use Rattle.wholepath_writing.specs.laws.Written.{out}
use Rattle.wholepath_writing.specs.laws.Laying.{Stepping}
use Rattle.wholepath_writing.proofs.writing.write_step.Given as goal

abbrev pub invariant-loop-i : goal.invariant-loop-i
invariant-loop-i l = Stepping l.t l.points l.lifts l.s l.start l.w l.n l.first l.second l.lift l.i (out l.initial.forms l.initial.coords l.initial.remainders) (out l.forms l.coords l.remainders)
