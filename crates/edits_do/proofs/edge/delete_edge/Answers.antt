-- `edge::delete_edge` meets its contract. Deletes edge e. Answers the new face count and the rule met.
use Rattle.std.specs.Prelude.{Some}
use Rattle.std.proofs.lemmas.Result.{err_from_is_err_and}
use Rattle.edits.proofs.laws.WrittenGood.{may_delete_ready}
use Rattle.edits.specs.declared.edit.Edit.TheVariants.{DeleteEdge}
use Rattle.edits.proofs.laws.Rules.{was_refused}
use Rattle.edits_rule.specs.laws.Rule.{delete_edge, rule_allows, ruled_reply}
use mathlib.Core.Path.{sym, ap, ◌∙◌}
use Rattle.edits.proofs.laws.Verdicts.{may_delete}
use Rattle.edits_do.proofs.edge.delete_edge.Goals as goal

pub delete_rule-ruling-requires : goal.delete_rule-ruling-requires
delete_rule-ruling-requires c = delete_edge (may_delete _ _ (sym c.delete_verdict.ensures ∙ c.in_ok-delete_verdict.was))

pub delete-requires : goal.delete-requires
delete-requires c = may_delete_ready _ _ (may_delete _ _ (sym c.delete_verdict.ensures ∙ c.in_ok-delete_verdict.was))

pub by_rule-requires : goal.by_rule-requires
by_rule-requires c = let passes = sym c.delete_verdict.ensures ∙ c.in_ok-delete_verdict.was in
    rule_allows c.args.t.now (DeleteEdge c.args.e) passes (ap Some (sym c.delete_rule-ruling.ensures.1)) c.delete_rule-ruling.ensures.0
    (may_delete _ _ passes).good

pub returns-in_err-delete_verdict : goal.returns-in_err-delete_verdict
returns-in_err-delete_verdict c = let p = err_from_is_err_and c.from_residual.result c.from_residual.ensures.1 in
    rw (p.1, p.2) (was_refused c.args.t.now (DeleteEdge c.args.e) _ (sym c.delete_verdict.ensures ∙ c.in_err-delete_verdict.was))

pub returns : goal.returns
returns c = ruled_reply c.args.t.now (DeleteEdge c.args.e) (sym c.delete_verdict.ensures ∙ c.in_ok-delete_verdict.was)
    (ap Some (sym c.delete_rule-ruling.ensures.1)) c.delete_rule-ruling.ensures.0 c.delete.ensures c.by_rule.ensures
