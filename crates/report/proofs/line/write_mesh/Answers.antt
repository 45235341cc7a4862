-- `line::write_mesh` meets its contract: the word and five fields, one after the other.
use native.Mathlib.Omega.{arith}
use Rattle.report_lines.specs.laws.Wrote.{short, wrote_then, wrote_as}
use Rattle.report_lines.specs.Lines.{space, mesh_text}
use Rattle.text.specs.Decimal.{integer}
use borrow.Author.Rules.{rules}
use mir.Facts.{to_z-of_z}
use mir.Syntax.{w32}
use mir.Val.{SFits}
use mathlib.Core.List.{◌∷◌}
use mathlib.Core.Path.{ap}
use Rattle.report.proofs.line.write_mesh.Goals as goal

pub returns : goal.returns
unfolding mesh_text
returns c = let fits : SFits w32 c.args.m.euler = search rules in wrote_then
    (wrote_then
    (wrote_then (wrote_then (wrote_then (wrote_then (short 4 c.bytes-word.ensures (omega arith)) c.field-first.ensures) c.field-second.ensures) c.field-third.ensures) c.field-fourth.ensures)
    (wrote_as c.signed_field-fifth.ensures (ap (λ y. space ∷ integer y) (to_z-of_z fits))))
    (short 1 c.byte.ensures (omega arith))
