-- `vertex::all_led_darts` meets its contract. The loop keeps `Summed`, and the count is that of the blocks so far.
use Rattle.check_reads.proofs.laws.Tests.{Going}
use Rattle.check_reads.specs.Reads.{vertex_block}
use Rattle.table.specs.laws.Vertices.{Summed}
use Prim.Native.Nat.{◌*◌}
use Rattle.check_table.proofs.vertex.all_led_darts.Given as goal

abbrev pub invariant-loop-b : goal.invariant-loop-b
invariant-loop-b g l = Summed l.t l.n (32 * l.b) × Going g.C.Counter.shows (vertex_block l.t) l.b l.initial.reads l.reads
