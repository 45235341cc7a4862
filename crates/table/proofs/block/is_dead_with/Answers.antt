-- `block::is_dead_with` meets its contract. The invariant: the words so far, or-ed together, are 0 exactly if each is, and each is counted.
use Rattle.table.specs.laws.Reading.{adds_more}
use Rattle.table.specs.laws.Blocks.{together_more, or_zero}
use mathlib.Core.Path.{sym, ◌∙◌}
use lib.Bits.{or_zero_l}
use Rattle.table.proofs.block.is_dead_with.Goals as goal

pub loop-i-preserved : goal.loop-i-preserved
loop-i-preserved g c = (
  adds_more c.loop-i.invariant.0 c.read-any.ensures.1,
  together_more c.loop-i.invariant.1 (λ p. let z = or_zero _ _ p in (z.0, sym c.read-any.ensures.0 ∙ z.1)) (λ p q. rw (p, c.read-any.ensures.0 ∙ q) (or_zero_l 0)),
)
