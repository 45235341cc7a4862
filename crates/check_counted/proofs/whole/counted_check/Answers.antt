-- `whole::counted_check` meets its contract: the count begins at 0, and is far below 100,000.
use Rattle.check_reads.proofs.laws.Bounds.{reads_most}
use native.Mathlib.Omega.{arith}
use mathlib.Core.Path.{refl}
use Rattle.check_counted.proofs.whole.counted_check.Goals as goal

pub returns : goal.returns
returns c = let most = reads_most c.args.t.now in
    let count = c.check_with-answer.ensures.1.told 0 (omega arith) refl in
    (c.check_with-answer.ensures.0, omega arith, omega arith)
