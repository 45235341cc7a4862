-- `tags::tag_in` meets its contract. The invariant: the walks that start below d are counted, and their corners tagged.
use Rattle.tracing_tags.specs.laws.Tags.{TagCounting}
use Rattle.tracing_tags.proofs.tags.tag_in.Given as goal

abbrev pub invariant-loop-d : goal.invariant-loop-d
invariant-loop-d l = TagCounting l.t l.d l.walks l.tags
