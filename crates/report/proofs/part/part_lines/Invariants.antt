-- `part::part_lines` meets its contract: labels, rows, then lines. The invariant: the lines of the parts before the rows that are left are written.
use Rattle.table.specs.Rotation.{rotation}
use Rattle.report.specs.laws.Parts.{Parting}
use Rattle.report.proofs.part.part_lines.Given as goal

abbrev pub invariant-loop-row : goal.invariant-loop-row
invariant-loop-row l = Parting (rotation l.t) l.from l.at l.end l.initial.out l.out l.row-iterator.rest.now l.row-iterator.size
