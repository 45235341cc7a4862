-- `field::field` meets its contract: a space and a number.
use native.Mathlib.Omega.{arith}
use Rattle.report_lines.specs.laws.Wrote.{field_wrote}
use Rattle.report_lines.proofs.field.field.Goals as goal

pub returns : goal.returns
returns c = field_wrote (omega arith) c.byte-next.ensures c.number.ensures
