-- `call::letters` meets its contract: the refusal of the step, a short slice, or the letters written.
use native.Mathlib.Omega.{arith}
use mathlib.Core.Path.{sym, ◌∙◌}
use Rattle.weave.proofs.laws.Calls.{there_steps, letters_done}
use Rattle.weave_letters.proofs.call.letters.Goals as goal

pub letter_count-size-requires : goal.letter_count-size-requires
letter_count-size-requires c = (there_steps _ _ _ (sym c.in_ok-s.was ∙ c.named_step.ensures)).stands

pub write_letters-requires : goal.write_letters-requires
write_letters-requires c = ((there_steps _ _ _ (sym c.in_ok-s.was ∙ c.named_step.ensures)).stands, omega arith)

pub returns : goal.returns
returns c = letters_done _ _ _ c.named_step.ensures _ c.in_ok-s.was c.letter_count-size.ensures.count c.if-out-size.false c.write_letters.ensures
