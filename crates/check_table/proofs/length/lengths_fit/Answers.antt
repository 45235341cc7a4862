-- `length::lengths_fit` meets its contract. The invariant: no edge so far has a length that does not fit its word, and two words of each are counted.
use Rattle.table.specs.laws.Reading.{adds_more}
use Rattle.table.specs.laws.Blocks.{together_more, or_zero}
use Rattle.table.specs.laws.Lengths.{unfit, unfit_none}
use Rattle.table.proofs.Unfit.{none_unfit}
use Rattle.table.specs.Layout.{edge_word, length_word}
use Prim.Native.Nat.{◌+◌, ◌*◌}
use mathlib.Core.Path.{◌≡◌, sym, ◌∙◌, ap₂}
use native.Mathlib.Omega.{arith}
use lib.Bits.{or_zero_l}
use Rattle.check_table.proofs.length.lengths_fit.Goals as goal

pub loop-e-preserved : goal.loop-e-preserved
loop-e-preserved g c = let more : 2 * (c.loop-e.e + 1) ≡ 2 * c.loop-e.e + 2 = omega arith in
    let fits = c.read-l.type_inv in
    let same : unfit c.read-w.result c.read-l.result ≡ unfit (edge_word c.args.t.now c.loop-e.e) (length_word c.args.t.now c.loop-e.e) = ap₂ unfit c.read-w.ensures.0 c.read-l.ensures.0 in (
      rw more (adds_more c.loop-e.invariant.0 (adds_more c.read-w.ensures.1 c.read-l.ensures.1)),
      together_more c.loop-e.invariant.1 (λ p. let z = or_zero _ _ p in (z.0, unfit_none c.args.t.now c.loop-e.e (omega arith) (sym same ∙ z.1)))
          (λ p q. rw (p, same ∙ none_unfit c.args.t.now c.loop-e.e q) (or_zero_l 0)),
    )
