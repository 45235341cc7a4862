-- `path::whole_path` meets its contract: the refusal of the step, or what the path from it gives.
use Rattle.wholepath.proofs.laws.WholePath.{path_left}
use Rattle.weave.proofs.laws.Calls.{there_steps}
use mathlib.Core.Path.{sym, ◌∙◌}
use Rattle.wholepath.proofs.path.whole_path.Goals as goal

pub path_from-requires : goal.path_from-requires
path_from-requires c = (there_steps _ _ _ (sym c.in_ok-s.was ∙ c.named_step.ensures)).stands

pub returns : goal.returns
returns c = path_left _ _ _ _ _ _ c.named_step.ensures c.in_ok-s.was c.path_from.ensures
