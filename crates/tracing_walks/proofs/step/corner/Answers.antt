-- `step::corner` meets its contract: a live dart's "next" is a dart.
use Rattle.tracing_walks.specs.laws.Stands.{near, stands_dart, corner_next_word}
use Rattle.tracing.proofs.laws.Step.{corner_zero}
use Rattle.table.specs.Rotation.{rotation}
use mathlib.Core.Path.{sym}
use native.Mathlib.Omega.{arith}
use Rattle.tracing_walks.proofs.step.corner.Goals as goal

pub returns-then-s-eq0 : goal.returns-then-s-eq0
returns-then-s-eq0 c = sym (corner_zero (rotation _) c.args.s c.if-s-eq0.true)

pub bounds-t-d : goal.bounds-t-d
bounds-t-d c = let n = near (stands_dart c.requires) in omega arith

pub overflow_cast-result : goal.overflow_cast-result
overflow_cast-result c = let n = near (stands_dart c.requires) in omega arith

pub returns : goal.returns
returns c = corner_next_word c.requires (omega arith)
