-- `length::cut_length` meets its contract: the refusal of the step, or the ribbon's length.
use Rattle.weave.proofs.laws.Calls.{there_steps}
use mathlib.Core.Path.{sym, ◌∙◌}
use Rattle.lengths.proofs.length.cut_length.Goals as goal

pub length_along-requires : goal.length_along-requires
length_along-requires c = (there_steps _ _ _ (sym c.in_ok-s.was ∙ c.named_step.ensures)).stands
