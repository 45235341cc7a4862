-- The line of the weave.
use Rattle.std.specs.Prelude.{ℕ, ◌≡◌, true, false, List, ◌∷◌, ◌++◌}
use Rattle.std.proofs.Common.{arith}
use Rattle.weave.specs.Letters.{plain}
use Rattle.report_lines.specs.Lines.{space, newline, kind_word, weave_word, weave_line}
use Rattle.text.specs.Paste.{Pasted}
use Rattle.report_lines.specs.laws.Wrote.{Wrote, short}

module _ (t : List ℕ) {from at r : ℕ} {out out' : List ℕ} where
  pub weave_plain : true ≡ plain t → Pasted from at out (weave_word ++ (space ∷ kind_word true) ++ newline) r out' → Wrote 12 from at out (weave_line t) r out'
  unfolding weave_line
  weave_plain e p = rw (← e) (short 12 p (omega arith))

  pub weave_mixed : false ≡ plain t → Pasted from at out (weave_word ++ (space ∷ kind_word false) ++ newline) r out' → Wrote 12 from at out (weave_line t) r out'
  unfolding weave_line
  weave_mixed e p = rw (← e) (short 12 p (omega arith))
