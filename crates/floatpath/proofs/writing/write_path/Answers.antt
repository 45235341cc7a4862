-- `writing::write_path` meets its contract: the pieces of the walk, then Close.
use Rattle.floatpath.specs.laws.Laying.{closing_room, closing_forms, closing_coords}
use Rattle.floatpath.proofs.writing.write_path.Goals as goal

pub write_piece-requires : goal.write_piece-requires
write_piece-requires c = closing_room c.requires c.write_pieces-n.ensures

pub returns : goal.returns
returns c = (closing_forms c.requires c.write_pieces-n.ensures c.write_piece.ensures, closing_coords c.requires c.write_pieces-n.ensures c.write_piece.ensures)
