-- `walk::walk_step` meets its contract: the refusal of the place, that of the tally, or the step.
use Rattle.reader.specs.laws.Reader.{there_placed}
use mathlib.Core.Path.{sym, ◌∙◌}
use Rattle.reader.proofs.walk.walk_step.Goals as goal

pub step-next-requires : goal.step-next-requires
step-next-requires c = (there_placed (sym c.in-Ok.is ∙ c.placed-n.ensures)).stands

pub ends-last-requires : goal.ends-last-requires
ends-last-requires c = let p = there_placed (sym c.in-Ok.is ∙ c.placed-n.ensures) in (p.first_low, p.first_type)

pub tally_step-m-requires : goal.tally_step-m-requires
tally_step-m-requires c = (there_placed (sym c.in-Ok.is ∙ c.placed-n.ensures)).stands

pub moved-requires : goal.moved-requires
moved-requires c = let p = there_placed (sym c.in-Ok.is ∙ c.placed-n.ensures) in (p.first_low, p.first_type)
