-- `call::list` meets its contract: torn, short or written.
use native.Mathlib.Omega.{arith}
use Rattle.table.specs.laws.Check.{seen_good, seen_torn}
use Rattle.table.specs.laws.Output.{output_torn, output_short, output_done}
use Rattle.tracing_listing.proofs.call.list.Goals as goal

pub returns-then-not-is_good : goal.returns-then-not-is_good
returns-then-not-is_good c = output_torn _ _ _ (seen_torn _ c.is_good.ensures c.if-not-is_good.true)

pub measure-n-requires : goal.measure-n-requires
measure-n-requires c = (seen_good _ c.is_good.ensures c.if-not-is_good.false).1

pub returns-then-out-n : goal.returns-then-out-n
returns-then-out-n c = output_short _ _ _ (seen_good _ c.is_good.ensures c.if-not-is_good.false).0 (omega arith)

pub write_listing-requires : goal.write_listing-requires
write_listing-requires c = ((seen_good _ c.is_good.ensures c.if-not-is_good.false).1, (omega arith))

pub returns : goal.returns
returns c = output_done _ _ _ (seen_good _ c.is_good.ensures c.if-not-is_good.false).0 c.measure-n.ensures.words (omega arith)
    c.write_listing.ensures
