-- `tally::euler` meets its contract: from counts of 16 bits nothing is lost in 32.
use Rattle.surface_counts.specs.laws.EulerWord.{euler_word}
use native.Mathlib.Omega.{arith}
use Rattle.surface_counts.proofs.tally.euler.Goals as goal

pub returns : goal.returns
returns c = euler_word c.args.v c.args.e c.args.f (omega arith) (omega arith) (omega arith)
