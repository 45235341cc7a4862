-- `dart::is_bare` meets its contract, a return for each word that is read.
use Rattle.check_reads.proofs.laws.Tests.{told_all, told_differs, told_same}
use Rattle.check_table.proofs.dart.is_bare.Goals as goal

pub returns-then-read : goal.returns-then-read
returns-then-read g c = told_differs c.read.ensures c.if-read.true

pub returns-then-read-2 : goal.returns-then-read-2
returns-then-read-2 g c = told_same c.read.ensures c.if-read.false (told_differs c.read-2.ensures c.if-read-2.true)

pub returns-then-read-3 : goal.returns-then-read-3
returns-then-read-3 g c = told_same c.read.ensures c.if-read.false (told_same c.read-2.ensures c.if-read-2.false (told_differs c.read-3.ensures c.if-read-3.true))

pub returns : goal.returns
returns g c = told_same c.read.ensures c.if-read.false (told_same c.read-2.ensures c.if-read-2.false (told_same c.read-3.ensures c.if-read-3.false told_all))
