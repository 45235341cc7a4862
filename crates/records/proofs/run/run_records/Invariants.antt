-- `run::run_records` meets its contract. The invariant: the edits of the bytes taken so far are done, and their lines written.
use Rattle.records.specs.laws.Running.{Running}
use lib.ListN.{length}
use Prim.Native.Nat.{◌-◌}
use Rattle.records.proofs.run.run_records.Given as goal

abbrev pub invariant-loop-record : goal.invariant-loop-record
invariant-loop-record l = Running l.initial.t l.bytes l.number l.initial.out l.t l.at l.next l.end l.out

abbrev pub decreases-loop-record : goal.decreases-loop-record
decreases-loop-record l = length l.bytes - l.at
