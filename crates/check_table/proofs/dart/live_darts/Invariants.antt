-- `dart::live_darts` meets its contract. The loop keeps `RuledBelow`, and the count is that of the blocks so far.
use Rattle.check_reads.proofs.laws.Tests.{Going}
use Rattle.check_reads.specs.Reads.{edge_block}
use Rattle.table.specs.laws.Darts.{RuledBelow}
use Prim.Native.Nat.{◌*◌}
use Rattle.check_table.proofs.dart.live_darts.Given as goal

abbrev pub invariant-loop-b : goal.invariant-loop-b
invariant-loop-b g l = RuledBelow l.t l.n (64 * l.b) × Going g.C.Counter.shows (edge_block l.t) l.b l.initial.reads l.reads
