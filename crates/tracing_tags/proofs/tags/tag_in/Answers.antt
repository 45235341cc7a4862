-- `tags::tag_in` meets its contract. The invariant: the walks that start below d are counted, and their corners tagged.
use Rattle.tracing_tags.specs.laws.Tags.{counting_more}
use mathlib.Core.Path.{◌≡◌}
use native.Mathlib.Omega.{arith}
use Prim.Native.Nat.{◌+◌, ◌*◌}
use Rattle.tracing_tags.proofs.tags.tag_in.Goals as goal

pub tag_from-walks-requires : goal.tag_from-walks-requires
tag_from-walks-requires c = (c.loop-d.invariant.tagged, omega arith)

pub loop-d-preserved : goal.loop-d-preserved
loop-d-preserved c = counting_more c.loop-d.invariant c.tag_from-walks.ensures

pub returns : goal.returns
returns c = let end : c.loop-d.d ≡ 64 * c.args.b + 64 = omega arith in rw end at c.loop-d.invariant
