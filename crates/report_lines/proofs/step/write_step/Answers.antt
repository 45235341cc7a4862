-- `step::write_step` meets its contract: the dart, the type and the letters, one after the other.
use Rattle.report_lines.specs.laws.Steps.{edge_crossed, step_wrote}
use Rattle.report_lines.specs.laws.Wrote.{number_wrote}
use native.Mathlib.Omega.{arith}
use Rattle.report_lines.proofs.step.write_step.Goals as goal

pub byte-colon-requires : goal.byte-colon-requires
byte-colon-requires c = let few = (number_wrote (omega arith) c.number-kind.ensures).near in omega arith

pub write_letters-requires : goal.write_letters-requires
write_letters-requires c = edge_crossed c.edge_word-w.ensures (let few = (number_wrote (omega arith) c.number-kind.ensures).near in omega arith)

pub returns : goal.returns
returns c = step_wrote (omega arith) c.edge_word-w.ensures c.field-dart.ensures c.byte-slash.ensures c.number-kind.ensures c.byte-colon.ensures c.write_letters.ensures
