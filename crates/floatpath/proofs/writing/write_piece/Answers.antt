-- `writing::write_piece` meets its contract: one word, and three floats from three times its index on.
use Rattle.floatpath.specs.laws.Laying.{wrote_made}
use lib.ListN.{length-set}
use native.Mathlib.Omega.{arith}
use Rattle.floatpath.proofs.writing.write_piece.Goals as goal

pub bounds-coords-n-2 : goal.bounds-coords-n-2
bounds-coords-n-2 c = rw length-set (omega arith)

pub returns : goal.returns
returns c = wrote_made c.form_word.ensures c.point_of-q.ensures
