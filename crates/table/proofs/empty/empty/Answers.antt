-- `empty::empty` meets its contract: the size is wrong, or each kind of word is filled.
use mathlib.Core.Path.{refl}
use borrow.Author.Tests.{eq-eqb}
use Rattle.table.specs.laws.Empty.{filled_all}
use Rattle.table.proofs.empty.empty.Goals as goal

pub returns : goal.returns
returns c = simp (eq-eqb _ _ c.if-t-ne-WORDS.false) (refl, filled_all c.if-t-ne-WORDS.false c.fill.ensures c.fill-2.ensures c.fill-3.ensures c.fill-4.ensures)
