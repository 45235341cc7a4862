-- `call::parts` meets its contract: torn, short or written.
use Rattle.surface_calls.specs.laws.Calls.{rows_size, parts_short, parts_done}
use Rattle.surface_counts.specs.laws.Tally.{labelled_keyed}
use Rattle.table.specs.laws.Output.{output_torn}
use Rattle.table.specs.laws.Check.{seen_good, seen_torn}
use native.Mathlib.Omega.{arith}
use borrow.Author.Rules.{rules}
use Rattle.surface_calls.proofs.call.parts.Goals as goal

pub returns-then-not-is_good : goal.returns-then-not-is_good
returns-then-not-is_good c = output_torn _ _ _ (seen_torn _ c.is_good.ensures c.if-not-is_good.true)

pub label_parts-requires : goal.label_parts-requires
label_parts-requires c = ((seen_good _ c.is_good.ensures c.if-not-is_good.false).1, search rules, search rules)

pub roots-requires : goal.roots-requires
roots-requires c = labelled_keyed (seen_good _ c.is_good.ensures c.if-not-is_good.false).1 c.label_parts.ensures

pub returns-then-out-n : goal.returns-then-out-n
returns-then-out-n c = parts_short _ c.roots.ensures _ (seen_good _ c.is_good.ensures c.if-not-is_good.false).0 c.if-out-n.true

pub labelled_rows-requires : goal.labelled_rows-requires
labelled_rows-requires c = ((seen_good _ c.is_good.ensures c.if-not-is_good.false).1, c.label_parts.ensures, let s = rows_size _ c.roots.ensures in omega arith)

pub returns : goal.returns
returns c = parts_done _ c.roots.ensures _ (seen_good _ c.is_good.ensures c.if-not-is_good.false).0 c.labelled_rows.ensures
