-- `call::counts` meets its contract: torn, short or written.
use Rattle.surface_calls.specs.laws.Calls.{counts_short, counts_done}
use Rattle.table.specs.laws.Output.{output_torn}
use Rattle.table.specs.laws.Check.{seen_good, seen_torn}
use Rattle.surface_calls.proofs.call.counts.Goals as goal

pub returns-then-not-is_good : goal.returns-then-not-is_good
returns-then-not-is_good c = output_torn _ _ _ (seen_torn _ c.is_good.ensures c.if-not-is_good.true)

pub returns-then-out-lt5 : goal.returns-then-out-lt5
returns-then-out-lt5 c = counts_short _ _ (seen_good _ c.is_good.ensures c.if-not-is_good.false).0 c.if-out-lt5.true

pub measure_mesh-m-requires : goal.measure_mesh-m-requires
measure_mesh-m-requires c = (seen_good _ c.is_good.ensures c.if-not-is_good.false).1

pub returns : goal.returns
returns c = counts_done _ _ (seen_good _ c.is_good.ensures c.if-not-is_good.false).0 c.measure_mesh-m.ensures c.if-out-lt5.false c.write_five.ensures
