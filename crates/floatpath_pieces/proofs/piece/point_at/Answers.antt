-- `piece::point_at` meets its contract: three coordinates, each of lent words that are there and in range.
use Rattle.floatpath_pieces.specs.laws.Coordinate.{near_handed, point_made}
use Rattle.floatpath_pieces.proofs.piece.point_at.Goals as goal

pub coordinate-x-requires : goal.coordinate-x-requires
coordinate-x-requires c = near_handed c.requires.near.near_x

pub coordinate-y-requires : goal.coordinate-y-requires
coordinate-y-requires c = near_handed c.requires.near.near_y

pub coordinate-z-requires : goal.coordinate-z-requires
coordinate-z-requires c = near_handed c.requires.near.near_z

pub returns : goal.returns
returns c = point_made _ c.requires.near c.coordinate-x.ensures c.coordinate-y.ensures c.coordinate-z.ensures
