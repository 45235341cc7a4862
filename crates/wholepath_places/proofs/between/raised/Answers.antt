-- `between::raised` meets its contract: within range either way, the sum is not negative.
use Rattle.wholepath_places.proofs.laws.Between.{raised_fits, raised_whole, raised_made}
use Rattle.wholepath_places.proofs.between.raised.Goals as goal

pub overflow_add-result : goal.overflow_add-result
overflow_add-result c = raised_fits c.args.a c.requires

pub overflow_cast-result : goal.overflow_cast-result
overflow_cast-result c = raised_whole c.args.a c.requires

pub returns : goal.returns
returns c = raised_made c.args.a c.requires
