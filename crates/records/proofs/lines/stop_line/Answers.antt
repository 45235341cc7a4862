-- `lines::stop_line` meets its contract: nothing where the bytes ended, else the line of the refusal.
use Rattle.records.specs.laws.Running.{stop_none, stop_bad, stop_cut}
use Rattle.records.proofs.lines.stop_line.Goals as goal

pub returns-in-End : goal.returns-in-End
returns-in-End c = stop_none _ _ c.in-End.is

pub returns-in-BadMark : goal.returns-in-BadMark
returns-in-BadMark c = stop_bad _ c.in-BadMark.is c.number_of.ensures c.no_line.ensures

pub returns-in-CutRecord : goal.returns-in-CutRecord
returns-in-CutRecord c = stop_cut _ c.in-CutRecord.is c.number_of-in-CutRecord.ensures c.no_line-in-CutRecord.ensures
