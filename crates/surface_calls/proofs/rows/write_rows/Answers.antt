-- `rows::write_rows` meets its contract. The invariant: the rows of the parts labelled below r stand at the front.
use Rattle.surface_calls.specs.laws.Rowing.{rowing_turn}
use native.Mathlib.Omega.{arith}
use Rattle.surface_calls.proofs.rows.write_rows.Goals as goal

pub write_root-at-requires : goal.write_root-at-requires
write_root-at-requires c = rowing_turn c.loop-r.invariant (omega arith)
