-- `listing::write_walks` meets its contract. The invariant: the walks that start below d stand at the front, and their corners are marked.
use Rattle.tracing_listing.specs.laws.Writing.{writing_none, writing_room, writing_more, writing_all}
use mathlib.Core.Path.{◌≡◌}
use native.Mathlib.Omega.{arith}
use Rattle.tracing_listing.proofs.listing.write_walks.Goals as goal

pub loop-d-init : goal.loop-d-init
loop-d-init c = writing_none c.requires.0 c.requires.1

pub write_from-at-requires : goal.write_from-at-requires
write_from-at-requires c = writing_room c.loop-d.invariant c.loop-d-test.true

pub loop-d-preserved : goal.loop-d-preserved
loop-d-preserved c = writing_more c.loop-d.invariant c.loop-d-test.true c.write_from-at.ensures

pub shape_of-out : goal.shape_of-out
shape_of-out c = c.loop-d.invariant.front.size

pub returns : goal.returns
returns c = let end : c.loop-d.d ≡ 2048 = omega arith in writing_all (rw end at c.loop-d.invariant)
