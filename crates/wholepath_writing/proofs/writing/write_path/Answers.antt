-- `writing::write_path` meets its contract: the pieces of the walk, then Close.
use Rattle.wholepath_writing.specs.laws.Written.{forms_front, coords_front, rests_front}
use Rattle.wholepath_writing.specs.laws.Laying.{closing_room, closed, path_room}
use Rattle.wholepath_writing.proofs.writing.write_path.Goals as goal

pub write_piece-requires : goal.write_piece-requires
write_piece-requires c = closing_room c.requires c.write_pieces-n.ensures

pub returns : goal.returns
returns c = let room = path_room c.requires in
    let all = closed c.requires c.write_pieces-n.ensures c.write_piece.ensures in
    (forms_front room all, coords_front room all, rests_front room all)
