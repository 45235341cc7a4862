-- `call::alternates` meets its contract: the refusal of the step, or what the hands of its ribbon tell.
use mathlib.Core.Path.{sym, ◌∙◌}
use Rattle.weave.proofs.laws.Calls.{there_steps}
use Rattle.weave_plain.proofs.call.alternates.Goals as goal

pub is_alternating-requires : goal.is_alternating-requires
is_alternating-requires c = (there_steps _ _ _ (sym c.in_ok-s.was ∙ c.named_step.ensures)).stands
