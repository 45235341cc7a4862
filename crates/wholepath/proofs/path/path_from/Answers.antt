-- `path::path_from` meets its contract: declined with the slices as they were, or the path written.
use Rattle.wholepath.proofs.laws.WholePath.{along_room}
use mathlib.Core.Path.{sym, ◌∙◌}
use Rattle.wholepath.proofs.path.path_from.Goals as goal

pub write_path-requires : goal.write_path-requires
write_path-requires c = along_room c.requires _ _ _ (sym c.in_ok-pieces.was ∙ c.path_size.ensures)
