-- `rows::write_root` meets its contract, a return for each case: no vertex, no root, a part.
use Rattle.surface_calls.specs.laws.Rowing.{turned_none, turned_other, turned_root, is_root}
use Rattle.surface_calls.proofs.rows.write_root.Goals as goal

pub returns-then-t-r : goal.returns-then-t-r
returns-then-t-r c = turned_none c.requires c.if-t-r.true

pub returns-then-up-r : goal.returns-then-up-r
returns-then-up-r c = turned_other c.requires c.if-up-r.true

pub row-requires : goal.row-requires
row-requires c = c.requires.room (is_root c.requires c.if-t-r.false c.if-up-r.false)

pub returns : goal.returns
returns c = turned_root c.requires c.if-t-r.false c.if-up-r.false c.row.ensures
