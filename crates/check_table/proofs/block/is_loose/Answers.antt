-- `block::is_loose` meets its contract. The invariant: the words so far, and-ed together, are 65,534 at least exactly if each is, and each is counted.
use Rattle.table.specs.laws.Reading.{adds_more}
use Rattle.table.specs.laws.Blocks.{together_more, and_isolated}
use Rattle.table.specs.Layout.{vertex_word}
use lib.Bits.{and_le_l, and_le_r}
use Prim.Native.Nat.{◌+◌, ◌*◌}
use native.Mathlib.Omega.{arith}
use Rattle.check_table.proofs.block.is_loose.Goals as goal

pub loop-i-preserved : goal.loop-i-preserved
loop-i-preserved g c = let w = vertex_word c.args.t.now (32 * c.args.b + c.loop-i.i) in
    let fits = c.read-all.type_inv in
    let less = and_le_l c.loop-i.all c.read-all.result in
    let less-2 = and_le_r c.loop-i.all c.read-all.result in (
      adds_more c.loop-i.invariant.0 c.read-all.ensures.1,
      omega arith,
      together_more
          c.loop-i.invariant.2
          (λ h. (omega arith, (omega arith, omega arith)))
          (λ p q. rw c.read-all.ensures.0 (and_isolated c.loop-i.all w c.loop-i.invariant.1 (omega arith) p q.0)),
    )
