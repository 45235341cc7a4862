-- `listing::write_listing` meets its contract: the walks, then the empty walks.
use Rattle.tracing_listing.specs.laws.Writing.{walks_room, lones_room, listed_parts}
use Rattle.tracing_listing.proofs.listing.write_listing.Goals as goal

pub write_walks-at-requires : goal.write_walks-at-requires
write_walks-at-requires c = (c.requires.0, walks_room _ _ c.requires.1)

pub write_lones-requires : goal.write_lones-requires
write_lones-requires c = (c.requires.0, lones_room c.requires.1 c.write_walks-at.ensures)

pub returns : goal.returns
returns c = listed_parts c.requires.1 c.write_walks-at.ensures c.write_lones.ensures
