-- `turns::turned_word` meets its contract. The word of an edge of word w once it is turned by an amount, or 0 if its turns would pass 99 either way.
use lib.IntN.{◌+ℤ◌, nat_abs}
use Rattle.edits.proofs.laws.Turns.{word_in, settle, in_range, settle_hundred}
use Rattle.edits.specs.Turns.{turns_in}
use mathlib.Core.Path.{ap, ◌∙◌}
use Rattle.edits_verdict.proofs.turns.turned_word.Goals as goal

pub returns : goal.returns
returns c = let s = settle c.args.w c.args.amount c.ranges.w.fits c.ranges.amount.sfits c.ranges.amount in
    let r = in_range (turns_in c.args.w +ℤ c.args.amount) (rw s at c.if-turns-lt-LEAST.false) (rw s at c.if-turns-gt-MOST.false) in
    ap nat_abs (settle_hundred _ (turns_in c.args.w +ℤ c.args.amount) s r) ∙ word_in c.args.w c.args.amount r.few
