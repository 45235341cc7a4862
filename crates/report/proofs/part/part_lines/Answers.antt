-- `part::part_lines` meets its contract: labels, rows, then lines. The invariant: the lines of the parts before the rows that are left are written.
use Rattle.table.specs.Rotation.{rotation}
use Rattle.table.specs.laws.Lawful.{good_lawful}
use Rattle.report.specs.laws.Parts.{rows_few, parting_none, parting_near, parting_more, parting_all}
use native.Mathlib.Omega.{arith}
use mathlib.Core.Path.{◌∙◌, ap}
use Rattle.report.proofs.part.part_lines.Goals as goal

pub labelled_rows-n-requires : goal.labelled_rows-n-requires
labelled_rows-n-requires c = (c.requires.0, c.label_parts.ensures, rows_few (rotation c.args.t.now))

pub loop-row-init : goal.loop-row-init
loop-row-init c = parting_none c.args.from c.args.at c.args.out.now c.labelled_rows-n.ensures
    (ap (λ x. x.rest.now) c.into_iter-row-iterator.ensures.into_iter_gives ∙ c.chunks_exact-row-items.ensures.rest)
    (ap (λ x. x.size) c.into_iter-row-iterator.ensures.into_iter_gives ∙ c.chunks_exact-row-items.ensures.size)

pub part_line-end-requires : goal.part_line-end-requires
part_line-end-requires c = let near = parting_near (good_lawful _ c.requires.0) c.loop-row.invariant in
    let six = c.in-Some.ensures.steps.1.1 ∙ c.loop-row.invariant.six in
    (omega arith, omega arith)

pub loop-row-preserved : goal.loop-row-preserved
loop-row-preserved c = let s = c.in-Some.ensures.steps in parting_more (good_lawful _ c.requires.0) c.loop-row.invariant s.1.0 s.1.1 s.0 c.part_line-end.ensures

pub returns : goal.returns
returns c = parting_all (good_lawful _ c.requires.0) c.loop-row.invariant c.in-None.ensures.steps.1.0
