-- `between::coordinate` meets its contract: where the crossing sits, then its lift.
use Rattle.wholepath_places.proofs.laws.Between.{lift_near, lifted_made}
use Rattle.wholepath_places.proofs.between.coordinate.Goals as goal

pub lifted-requires : goal.lifted-requires
lifted-requires c = lift_near c.requires c.between-p.ensures

pub returns : goal.returns
returns c = lifted_made c.requires c.between-p.ensures _ c.lifted.ensures
