-- `field::signed_field` meets its contract: a space and a signed number.
use Rattle.report_lines.specs.laws.Wrote.{signed_wrote}
use Rattle.report_lines.proofs.field.signed_field.Goals as goal

pub returns : goal.returns
returns c = signed_wrote c.ranges.z c.byte-next.ensures c.integer.ensures
