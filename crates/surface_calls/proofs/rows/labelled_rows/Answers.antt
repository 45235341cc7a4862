-- `rows::labelled_rows` meets its contract: counts, then rows.
use Rattle.surface_counts.specs.laws.Tally.{labelled_keyed}
use Rattle.surface_calls.specs.laws.Rowing.{rowing_none}
use Rattle.surface_calls.proofs.rows.labelled_rows.Goals as goal

pub write_rows-requires : goal.write_rows-requires
write_rows-requires c = rowing_none (labelled_keyed c.requires.0 c.requires.1) c.tally_parts.ensures c.requires.2
