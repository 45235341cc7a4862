-- `tags::tag_faces` meets its contract. The invariant: the walks that start below block b are counted, and their corners tagged.
use Rattle.tracing_tags.specs.laws.Tags.{TagCounting}
use Prim.Native.Nat.{◌*◌}
use Rattle.tracing_tags.proofs.tags.tag_faces.Given as goal

abbrev pub invariant-loop-b : goal.invariant-loop-b
invariant-loop-b l = TagCounting l.t (64 * l.b) l.walks l.tags
