-- `splice::successor` meets its contract. The word of vertex v once dart x is out, where it was w. The loop keeps `Seeking`, and `darts - d` falls.
use Rattle.edits.proofs.laws.Unlink.{Seeking}
use Rattle.edits_write.proofs.splice.successor.Given as goal

abbrev pub invariant-loop-d : goal.invariant-loop-d
invariant-loop-d l = Seeking l.t l.v l.x l.d
