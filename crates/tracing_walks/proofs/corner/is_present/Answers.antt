-- `corner::is_present` meets its contract: the word of the dart's edge, or of the vertex, says it.
use Rattle.tracing_walks.specs.laws.Present.{well_dart, well_lone, present_edge, present_vertex}
use native.Mathlib.Omega.{arith}
use Rattle.tracing_walks.proofs.corner.is_present.Goals as goal

pub bounds-t-n : goal.bounds-t-n
bounds-t-n c = let low = well_dart _ c.requires.1 c.if-c-lt-LONE.true in omega arith

pub returns-then-c-lt-LONE : goal.returns-then-c-lt-LONE
returns-then-c-lt-LONE c = present_edge _ _ c.requires.1 c.if-c-lt-LONE.true

pub bounds-t-c : goal.bounds-t-c
bounds-t-c c = let low = well_lone _ c.requires.1 c.if-c-lt-LONE.false in omega arith

pub returns : goal.returns
returns c = present_vertex _ _ c.requires.1 c.if-c-lt-LONE.false
