-- `turning::turn_rule` meets its contract: an even amount, or one by how the sides lie.
use native.Mathlib.Omega.{arith}
use mathlib.Core.Path.{ap, ◌∙◌}
use Rattle.edits.specs.Rules.{rule_for}
use Rattle.surgery.specs.Change.{turning}
use Rattle.tracing_meets.specs.laws.Read.{edge_near}
use Rattle.edits_rule.specs.laws.Rule.{even_turn, odd_turn}
use Rattle.edits_rule.proofs.turning.turn_rule.Goals as goal

pub overflow_add-e : goal.overflow_add-e
overflow_add-e c = let n = edge_near c.requires in omega arith

pub offset_bounds-t-e : goal.offset_bounds-t-e
offset_bounds-t-e c = let n = edge_near c.requires in omega arith

pub bounds-t-e : goal.bounds-t-e
bounds-t-e c = let n = edge_near c.requires in omega arith

pub returns-then-t-e : goal.returns-then-t-e
returns-then-t-e c = (c.face_count.ensures, even_turn _ _ _ c.if-t-e.true)

pub returns : goal.returns
returns c = (c.sides_of-sided.ensures.0, c.turning_rule.ensures ∙ ap (λ s. rule_for (turning s)) c.sides_of-sided.ensures.1 ∙ odd_turn _ _ _ c.if-t-e.false)
