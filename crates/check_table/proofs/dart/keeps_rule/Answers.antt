-- `dart::keeps_rule` meets its contract: the edge's word tells which tests the dart has.
use Rattle.check_reads.proofs.laws.Darts.{told_dead, told_many, told_live}
use mathlib.Core.Path.{sym, ◌∙◌}
use native.Mathlib.Omega.{arith}
use Rattle.check_table.proofs.dart.keeps_rule.Goals as goal

pub returns-then-w-eq0 : goal.returns-then-w-eq0
returns-then-w-eq0 g c = told_dead _ _ (sym c.requires.1 ∙ c.if-w-eq0.true) c.is_bare.ensures

pub returns-then-w-gt-EDGE_WORD_MAX : goal.returns-then-w-gt-EDGE_WORD_MAX
returns-then-w-gt-EDGE_WORD_MAX g c = told_many _ _ (rw c.requires.1 at c.if-w-eq0.false) (omega arith)

pub returns : goal.returns
returns g c = told_live _ _ (rw c.requires.1 at c.if-w-eq0.false) (omega arith) c.is_linked.ensures
