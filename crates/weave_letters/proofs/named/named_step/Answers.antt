-- `call::named_step` meets its contract, a return for each refusal in its order: torn, no such name, absent.
use native.Mathlib.Omega.{arith}
use Rattle.table.specs.laws.Check.{seen_good, seen_torn}
use Rattle.weave.proofs.laws.Calls.{named_torn, named_past, named_type, named_dead, named_there}
use Rattle.weave_letters.proofs.named.named_step.Goals as goal

pub returns-then-not-is_good : goal.returns-then-not-is_good
returns-then-not-is_good c = named_torn _ _ _ (seen_torn _ c.is_good.ensures c.if-not-is_good.true)

pub returns-then-d-ge-DARTS : goal.returns-then-d-ge-DARTS
returns-then-d-ge-DARTS c = named_past _ _ _ (seen_good _ c.is_good.ensures c.if-not-is_good.false).0 c.if-d-ge-DARTS.true

pub returns-then-kind-gt1 : goal.returns-then-kind-gt1
returns-then-kind-gt1 c = named_type _ _ _ (seen_good _ c.is_good.ensures c.if-not-is_good.false).0 c.if-d-ge-DARTS.false c.if-kind-gt1.true

pub bounds-t-d : goal.bounds-t-d
bounds-t-d c = let size = (seen_good _ c.is_good.ensures c.if-not-is_good.false).1.size in omega arith

pub returns-then-t-d-eq0 : goal.returns-then-t-d-eq0
returns-then-t-d-eq0 c = named_dead _ _ _ (seen_good _ c.is_good.ensures c.if-not-is_good.false).0 c.if-d-ge-DARTS.false c.if-kind-gt1.false c.if-t-d-eq0.true

pub returns : goal.returns
returns c = named_there _ _ _ (seen_good _ c.is_good.ensures c.if-not-is_good.false).0 c.if-d-ge-DARTS.false c.if-kind-gt1.false c.if-t-d-eq0.false
