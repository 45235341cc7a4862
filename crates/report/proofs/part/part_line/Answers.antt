-- `part::part_line` meets its contract: the word and three fields, one after the other.
use Rattle.surface.specs.Labels.{orientable}
use Rattle.report.specs.laws.Parts.{vertex_text, euler_text, mark_handed}
use Rattle.report_lines.specs.laws.Wrote.{short, wrote_then, wrote_as, wrote_most}
use Rattle.report_lines.specs.Lines.{part_text}
use mathlib.Core.List.{[], ◌∷◌}
use mathlib.Core.Path.{ap}
use native.Mathlib.Omega.{arith}
use Rattle.report.proofs.part.part_line.Goals as goal

pub returns : goal.returns
unfolding part_text
returns c = λ R r k.
    let mark = wrote_as (short 1 c.byte-third.ensures (omega arith)) (ap (λ x. x ∷ []) (c.side-letter.ensures (orientable R r) (mark_handed k))) in
    let vertex = wrote_then (short 4 c.bytes-word.ensures (omega arith)) (wrote_as c.signed_field-first.ensures (vertex_text k)) in
    let euler = wrote_then vertex (wrote_as c.signed_field-second.ensures (euler_text k)) in
    let line = wrote_then (wrote_then euler (wrote_then (short 1 c.byte-gap.ensures (omega arith)) mark)) (short 1 c.byte.ensures (omega arith)) in
    wrote_most line 40 (omega arith)
