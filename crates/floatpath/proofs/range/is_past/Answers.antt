-- `range::is_past` meets its contract: below the range, or else above it exactly if the last test says so.
use Rattle.floatpath.specs.laws.Range.{bound_fits, past_yes, past_else}
use Rattle.floatpath.proofs.range.is_past.Goals as goal

pub overflow_sub-m : goal.overflow_sub-m
overflow_sub-m c = bound_fits _ c.requires

pub returns-then-z-m : goal.returns-then-z-m
returns-then-z-m c = past_yes _ c.ranges.z _ c.requires c.if-z-m.true

pub returns : goal.returns
returns c = past_else _ c.ranges.z _ c.requires c.if-z-m.false
