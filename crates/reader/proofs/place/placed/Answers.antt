-- `place::placed` meets its contract, a return for each refusal in its order: torn, no such name, absent.
use Rattle.reader.specs.laws.Reader.{in_range, placed_torn, placed_past, placed_type, first_past, first_type, placed_dead, first_dead, placed_there}
use Rattle.table.specs.laws.Rotation.{yes_live}
use Rattle.table.specs.laws.Check.{seen_good, seen_torn}
use native.Mathlib.Omega.{arith}
use Rattle.reader.proofs.place.placed.Goals as goal

pub returns-then-not-is_good : goal.returns-then-not-is_good
returns-then-not-is_good c = placed_torn _ _ _ (seen_torn _ c.is_good.ensures c.if-not-is_good.true)

pub returns-then-d-ge-DARTS : goal.returns-then-d-ge-DARTS
returns-then-d-ge-DARTS c = placed_past _ _ _ (seen_good _ c.is_good.ensures c.if-not-is_good.false).0 c.if-d-ge-DARTS.true

pub returns-then-at-gt1 : goal.returns-then-at-gt1
returns-then-at-gt1 c = placed_type _ _ _ (seen_good _ c.is_good.ensures c.if-not-is_good.false).0 c.if-d-ge-DARTS.false c.if-at-gt1.true

pub returns-then-f-ge-DARTS : goal.returns-then-f-ge-DARTS
returns-then-f-ge-DARTS c = first_past _ _ _ (seen_good _ c.is_good.ensures c.if-not-is_good.false).0 (in_range _ _ c.if-d-ge-DARTS.false c.if-at-gt1.false) c.if-f-ge-DARTS.true

pub returns-then-first-gt1 : goal.returns-then-first-gt1
returns-then-first-gt1 c = first_type _ _ _ (seen_good _ c.is_good.ensures c.if-not-is_good.false).0 (in_range _ _ c.if-d-ge-DARTS.false c.if-at-gt1.false) c.if-f-ge-DARTS.false c.if-first-gt1.true

pub bounds-t-d : goal.bounds-t-d
bounds-t-d c = let size = (seen_good _ c.is_good.ensures c.if-not-is_good.false).1.size in omega arith

pub returns-then-t-d-eq0 : goal.returns-then-t-d-eq0
returns-then-t-d-eq0 c = placed_dead _ _ _ (seen_good _ c.is_good.ensures c.if-not-is_good.false).0 (in_range _ _ c.if-d-ge-DARTS.false c.if-at-gt1.false) (in_range _ _ c.if-f-ge-DARTS.false c.if-first-gt1.false)
    c.if-t-d-eq0.true

pub bounds-t-f : goal.bounds-t-f
bounds-t-f c = let size = (seen_good _ c.is_good.ensures c.if-not-is_good.false).1.size in omega arith

pub returns-then-t-f-eq0 : goal.returns-then-t-f-eq0
returns-then-t-f-eq0 c = first_dead _ _ _ (seen_good _ c.is_good.ensures c.if-not-is_good.false).0 (in_range _ _ c.if-d-ge-DARTS.false c.if-at-gt1.false) (in_range _ _ c.if-f-ge-DARTS.false c.if-first-gt1.false)
    c.if-d-ge-DARTS.false c.if-t-d-eq0.false c.if-t-f-eq0.true

pub returns : goal.returns
returns c = placed_there _ _ _ (seen_good _ c.is_good.ensures c.if-not-is_good.false).0 (in_range _ _ c.if-d-ge-DARTS.false c.if-at-gt1.false) (in_range _ _ c.if-f-ge-DARTS.false c.if-first-gt1.false)
    (yes_live _ _ (record { low = c.if-d-ge-DARTS.false; on = c.if-t-d-eq0.false })) (yes_live _ _ (record { low = c.if-f-ge-DARTS.false; on = c.if-t-f-eq0.false }))
