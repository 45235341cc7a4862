-- `number::integer` meets its contract, by the test of the sign.
use Rattle.text.specs.laws.Sign.{signed_negative, signed_positive}
use mathlib.Core.Path.{◌∙◌}
use Rattle.text.proofs.number.integer.Goals as goal

pub returns-then-z-lt0 : goal.returns-then-z-lt0
returns-then-z-lt0 c = signed_negative c.ranges.z c.if-z-lt0.true (c.from-n.ensures ∙ c.unsigned_abs.ensures.value) c.byte-next.ensures c.number.ensures

pub returns : goal.returns
returns c = signed_positive c.ranges.z c.if-z-lt0.false (c.from-n.ensures ∙ c.unsigned_abs.ensures.value) c.number-2.ensures
