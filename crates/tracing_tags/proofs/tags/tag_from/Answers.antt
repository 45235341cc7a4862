-- `tags::tag_from` meets its contract, a return for each case: a dart that is not live, a corner that is tagged, a start.
use Rattle.tracing_tags.specs.laws.Tags.{look_ready, from_dead, from_met, from_start}
use Rattle.tracing_walks.specs.laws.Size.{start_stands}
use Rattle.tracing_tags.proofs.tags.tag_from.Goals as goal

pub returns-then-t-d-eq0 : goal.returns-then-t-d-eq0
returns-then-t-d-eq0 c = from_dead c.requires.0 c.requires.1 c.if-t-d-eq0.true

pub returns-then-tags-d : goal.returns-then-tags-d
returns-then-tags-d c = from_met c.requires.0 c.requires.1 c.if-tags-d.true

pub tag_walk-requires : goal.tag_walk-requires
tag_walk-requires c = (start_stands (look_ready c.requires.0 c.requires.1) c.if-t-d-eq0.false, c.requires.0.size)

pub returns : goal.returns
returns c = from_start c.requires.0 c.requires.1 c.if-t-d-eq0.false c.if-tags-d.false c.tag_walk.ensures
