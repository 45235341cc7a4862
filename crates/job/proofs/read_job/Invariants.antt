-- `read_job` meets its contract. The invariant: what came is read, and the bytes of a cut record wait
-- at the front of the buffer. The measure is the bytes that may still come, and one more turn for the read that gives none.
use Rattle.job.specs.laws.Progress.{Going, waiting}
use Prim.Native.Nat.{◌+◌, ◌-◌, ◌^◌}
use Rattle.job.proofs.read_job.Given as goal

abbrev pub invariant-loop-buf : goal.invariant-loop-buf
invariant-loop-buf g l = Going l.initial.t l.t l.buf l.p

abbrev pub decreases-loop-buf : goal.decreases-loop-buf
decreases-loop-buf g l = waiting l.p.state + (2 ^ 61 - l.p.read)
