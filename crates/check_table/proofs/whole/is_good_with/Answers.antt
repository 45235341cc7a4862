-- `whole::is_good_with` meets its contract: a slice of another size is not good, and nothing is read of it.
use Rattle.check_reads.proofs.laws.Whole.{size_reads}
use Rattle.table.specs.laws.Check.{good_no}
use Rattle.table.specs.laws.Reading.{adds_none}
use Rattle.check_table.proofs.whole.is_good_with.Goals as goal

pub returns-in-Some : goal.returns-in-Some
returns-in-Some g c = rw c.in-Some.ensures.cases.same at c.keeps_rules.ensures

pub returns-in-None : goal.returns-in-None
returns-in-None g c = (good_no _ (λ g. c.in-None.ensures.cases g.size), rw (size_reads _ c.in-None.ensures.cases) adds_none)
