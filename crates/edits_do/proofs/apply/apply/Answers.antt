-- `apply::apply` meets its contract. Does the edit, or declines it. Answers the new face count, and for an edge the rule met.
use Rattle.edits.proofs.laws.Edits.{same_edit, same_insertion, same_turn}
use Rattle.edits.proofs.laws.Rules.{faces_alone}
use mathlib.Core.Path.{refl}
use borrow.Author.Rules.{rules}
use Rattle.edits_do.proofs.apply.apply.Goals as goal

pub returns-in-AddVertex : goal.returns-in-AddVertex
returns-in-AddVertex c = same_edit _ _ _ _ _ c.in-AddVertex.is (faces_alone _ _ refl c.add_vertex.ensures.0 c.without_rule.ensures, c.add_vertex.ensures.1)

pub returns-in-RemoveVertex : goal.returns-in-RemoveVertex
returns-in-RemoveVertex c = same_edit _ _ _ _ _ c.in-RemoveVertex.is (faces_alone _ _ refl c.remove_vertex.ensures.0 c.without_rule-in-RemoveVertex.ensures, c.remove_vertex.ensures.1)
