-- `walk::write_lone` meets its contract: the word, the index and the vertex.
use Rattle.report_lines.specs.laws.Walks.{lone_wrote}
use Rattle.report_lines.specs.laws.Wrote.{number_wrote}
use native.Mathlib.Omega.{arith}
use Rattle.report_lines.proofs.walk.write_lone.Goals as goal

pub byte-requires : goal.byte-requires
byte-requires c = let few = (number_wrote (omega arith) c.number-vertex.ensures).near in omega arith

pub returns : goal.returns
returns c = lone_wrote c.args.i c.args.v (omega arith) c.bytes-word.ensures c.field-index.ensures c.bytes-star.ensures c.number-vertex.ensures c.byte.ensures
