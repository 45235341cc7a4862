-- `tally::tally_parts` meets its contract: three counts, one after the other.
use Rattle.surface_counts.specs.laws.Tallying.{tallies_keyed, tallies_vertexing, tallies_edging, tallied}
use Rattle.surface_counts.proofs.tally.tally_parts.Goals as goal

pub count_walks-requires : goal.count_walks-requires
count_walks-requires c = (tallies_keyed c.requires, c.requires.no_walks)

pub count_vertices-requires : goal.count_vertices-requires
count_vertices-requires c = tallies_vertexing c.requires c.count_walks.ensures

pub count_edges-requires : goal.count_edges-requires
count_edges-requires c = tallies_edging c.requires

pub returns : goal.returns
returns c = tallied c.requires.labelled c.count_vertices.ensures c.count_edges.ensures
