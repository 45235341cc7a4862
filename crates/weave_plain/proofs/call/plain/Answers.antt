-- `call::plain` meets its contract: torn, or what the listed ribbons tell.
use Rattle.table.specs.laws.Check.{seen_good, seen_torn}
use Rattle.weave.proofs.laws.Calls.{plain_torn, plain_done}
use Rattle.weave_plain.proofs.call.plain.Goals as goal

pub returns-then-not-is_good : goal.returns-then-not-is_good
returns-then-not-is_good c = plain_torn _ (seen_torn _ c.is_good.ensures c.if-not-is_good.true)

pub is_plain-requires : goal.is_plain-requires
is_plain-requires c = (seen_good _ c.is_good.ensures c.if-not-is_good.false).1

pub returns : goal.returns
returns c = plain_done _ (seen_good _ c.is_good.ensures c.if-not-is_good.false).0 c.is_plain.ensures
