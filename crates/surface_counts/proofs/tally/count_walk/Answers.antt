-- `tally::count_walk` meets its contract: no walk starts at dart d, or one does.
use Rattle.tracing_walks.specs.laws.Size.{seen_range}
use Rattle.surface_counts.specs.laws.Tallying.{walk_none, walk_more, walk_key, walk_low, start_low}
use native.Mathlib.Omega.{arith}
use Rattle.surface_counts.proofs.tally.count_walk.Goals as goal

pub look-requires : goal.look-requires
look-requires c = seen_range c.requires.0.seen c.requires.1

pub returns-in_default : goal.returns-in_default
returns-in_default c = walk_none c.requires.0 c.requires.1 c.look.ensures c.in_default.not-Some

pub overflow_cast-k : goal.overflow_cast-k
overflow_cast-k c = let n = start_low c.requires.0 c.requires.1 c.in-Some.ensures in omega arith

pub offset_bounds-up-t : goal.offset_bounds-up-t
offset_bounds-up-t c = let n = start_low c.requires.0 c.requires.1 c.in-Some.ensures in omega arith

pub bounds-up-t : goal.bounds-up-t
bounds-up-t c = start_low c.requires.0 c.requires.1 c.in-Some.ensures

pub overflow_cast-k-2 : goal.overflow_cast-k-2
overflow_cast-k-2 c = let n = walk_key c.requires.0 c.requires.1 c.in-Some.ensures in omega arith

pub offset_bounds-fs-k : goal.offset_bounds-fs-k
offset_bounds-fs-k c = let n = walk_key c.requires.0 c.requires.1 c.in-Some.ensures in omega arith

pub bounds-fs-k : goal.bounds-fs-k
bounds-fs-k c = walk_key c.requires.0 c.requires.1 c.in-Some.ensures

pub overflow_add-fs : goal.overflow_add-fs
overflow_add-fs c = let n = walk_low c.requires.0 c.requires.1 c.in-Some.ensures in omega arith

pub offset_bounds-fs-k-2 : goal.offset_bounds-fs-k-2
offset_bounds-fs-k-2 c = let n = walk_key c.requires.0 c.requires.1 c.in-Some.ensures in omega arith

pub bounds-fs-k-2 : goal.bounds-fs-k-2
bounds-fs-k-2 c = walk_key c.requires.0 c.requires.1 c.in-Some.ensures

pub returns : goal.returns
returns c = walk_more c.requires.0 c.requires.1 c.in-Some.ensures
