-- `piece::spot_at` meets its contract: three coordinates, each of lent words that are there and in range.
use Rattle.wholepath_pieces.specs.laws.Pieces.{crossing_read, spot_made}
use Rattle.wholepath_pieces.proofs.piece.spot_at.Goals as goal

pub coordinate-x-requires : goal.coordinate-x-requires
coordinate-x-requires c = crossing_read c.requires c.requires.words.near.near_x

pub coordinate-y-requires : goal.coordinate-y-requires
coordinate-y-requires c = crossing_read c.requires c.requires.words.near.near_y

pub coordinate-z-requires : goal.coordinate-z-requires
coordinate-z-requires c = crossing_read c.requires c.requires.words.near.near_z

pub returns : goal.returns
returns c = spot_made c.requires _ c.coordinate-x.ensures c.coordinate-y.ensures c.coordinate-z.ensures
