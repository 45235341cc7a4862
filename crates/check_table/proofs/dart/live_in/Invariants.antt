-- `dart::live_in` meets its contract. The loop keeps `RuledBelow`, and the count is that of the edges so far.
use Rattle.check_reads.proofs.laws.Tests.{Along}
use Rattle.check_reads.specs.Reads.{edge_tests}
use Rattle.table.specs.laws.Darts.{RuledBelow}
use Prim.Native.Nat.{◌*◌}
use Rattle.check_table.proofs.dart.live_in.Given as goal

abbrev pub invariant-loop-e : goal.invariant-loop-e
invariant-loop-e g l = RuledBelow l.t l.live (2 * l.e) × Along g.C.Counter.shows (edge_tests l.t) (32 * l.b) l.e l.initial.reads l.reads
