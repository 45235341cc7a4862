-- `block::is_blank` meets its contract. The invariant: the words so far, and-ed together, are 65,535 exactly if each is, and each is counted.
use Rattle.table.specs.laws.Reading.{adds_more}
use Rattle.table.specs.laws.Blocks.{together_more, and_nothing}
use Rattle.table.specs.Layout.{nothing}
use lib.ListN.{get_or}
use lib.Bits.{and_le_l, and_self}
use Prim.Native.Nat.{◌+◌}
use mathlib.Core.Path.{◌∙◌}
use native.Mathlib.Omega.{arith}
use Rattle.check_table.proofs.block.is_blank.Goals as goal

pub loop-i-preserved : goal.loop-i-preserved
loop-i-preserved g c = let w = get_or c.args.t.now (c.args.from + c.loop-i.i) 0 in
    let fits = c.read-all.type_inv in
    let less = and_le_l c.loop-i.all c.read-all.result in (
      adds_more c.loop-i.invariant.0 c.read-all.ensures.1,
      omega arith,
      together_more c.loop-i.invariant.2 (λ p. and_nothing c.loop-i.all w c.loop-i.invariant.1 (omega arith) (rw c.read-all.ensures.0 at p))
          (λ p q. rw (p, c.read-all.ensures.0 ∙ q) (and_self nothing)),
    )
