-- `vertex::led_in` meets its contract. The loop keeps `Summed`, and the count is that of the vertices so far.
use Rattle.check_reads.proofs.laws.Tests.{Along}
use Rattle.check_reads.specs.Reads.{vertex_tests}
use Rattle.table.specs.laws.Vertices.{Summed}
use Prim.Native.Nat.{◌*◌}
use Rattle.check_table.proofs.vertex.led_in.Given as goal

abbrev pub invariant-loop-v : goal.invariant-loop-v
invariant-loop-v g l = Summed l.t l.led l.v × Along g.C.Counter.shows (vertex_tests l.t) (32 * l.b) l.v l.initial.reads l.reads
