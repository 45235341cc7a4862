-- `plain::is_plain` meets its contract. The invariant: the ribbons listed from the darts below block b alternate, and their corners are marked.
use Prim.Native.Nat.{◌*◌}
use Rattle.weave_plain.specs.laws.Plain.{Judging}
use Rattle.weave_plain.proofs.plain.is_plain.Given as goal

abbrev pub invariant-loop-b : goal.invariant-loop-b
invariant-loop-b l = Judging l.t (64 * l.b) l.met
