-- `tally::forward` meets its contract: each field is tested before it is added to.
use Rattle.reader_tally.proofs.laws.Forward.{past_steps, past_overs, past_unders, past_length, brought}
use native.Mathlib.Omega.{arith}
use Rattle.reader_tally.proofs.tally.forward.Goals as goal

pub returns-then-y-ge-MOST : goal.returns-then-y-ge-MOST
returns-then-y-ge-MOST c = past_steps _ _ _ _ c.if-y-ge-MOST.true

pub returns-then-y-o : goal.returns-then-y-o
returns-then-y-o c = past_overs _ _ _ _ c.if-y-ge-MOST.false c.if-y-o.true

pub returns-then-y-u : goal.returns-then-y-u
returns-then-y-u c = past_unders _ _ _ _ c.if-y-ge-MOST.false (omega arith) c.if-y-u.true

pub returns-then-y-length : goal.returns-then-y-length
returns-then-y-length c = past_length _ _ _ _ c.if-y-ge-MOST.false (omega arith) (omega arith) c.if-y-length.true

pub returns : goal.returns
returns c = brought _ _ _ _ c.if-y-ge-MOST.false (omega arith) (omega arith) (omega arith)
