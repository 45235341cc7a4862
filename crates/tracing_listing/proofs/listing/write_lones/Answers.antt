-- `listing::write_lones` meets its contract. The invariant: the empty walks of the vertices below v are written.
use Rattle.tracing_listing.specs.laws.Writing.{ending_none, ending_room, ending_more}
use mathlib.Core.Path.{◌≡◌}
use native.Mathlib.Omega.{arith}
use Rattle.tracing_listing.proofs.listing.write_lones.Goals as goal

pub loop-v-init : goal.loop-v-init
loop-v-init c = ending_none c.requires.0 c.requires.1

pub write_lone-at-requires : goal.write_lone-at-requires
write_lone-at-requires c = ending_room c.loop-v.invariant c.loop-v-test.true

pub loop-v-preserved : goal.loop-v-preserved
loop-v-preserved c = ending_more c.loop-v.invariant c.loop-v-test.true c.write_lone-at.ensures

pub shape_of-out : goal.shape_of-out
shape_of-out c = c.loop-v.invariant.front.size

pub returns : goal.returns
returns c = let end : c.loop-v.v ≡ 512 = omega arith in (rw end at c.loop-v.invariant).front.words
