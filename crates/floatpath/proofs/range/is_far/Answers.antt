-- `range::is_far` meets its contract: the three words, tested one after the other.
use Rattle.floatpath.specs.laws.Range.{far_first, far_second, far_last}
use Rattle.floatpath.proofs.range.is_far.Goals as goal

pub returns-then-is_past : goal.returns-then-is_past
returns-then-is_past c = far_first (record { word = c.is_past-arg-1.given; said = c.is_past.ensures }) c.if-is_past.true

pub returns-then-is_past-2 : goal.returns-then-is_past-2
returns-then-is_past-2 c = far_second (record { word = c.is_past-arg-1.given; said = c.is_past.ensures }) c.if-is_past.false
    (record { word = c.is_past-arg-2-1.given; said = c.is_past-2.ensures }) c.if-is_past-2.true

pub returns : goal.returns
returns c = far_last (record { word = c.is_past-arg-1.given; said = c.is_past.ensures }) c.if-is_past.false
    (record { word = c.is_past-arg-2-1.given; said = c.is_past-2.ensures }) c.if-is_past-2.false (record { word = c.is_past-arg-3-1.given; said = c.is_past-3.ensures })
