-- `ask::ask_delete_edge` meets its contract. What deleting edge e would do.
use Rattle.std.specs.Prelude.{Ok}
use Rattle.std.proofs.lemmas.Result.{err_from_is_err_and}
use Rattle.edits.specs.declared.edit.Edit.TheVariants.{DeleteEdge}
use Rattle.edits.proofs.laws.Verdicts.{may_delete}
use Rattle.edits_rule.specs.laws.Rule.{delete_edge, rule_allows}
use Rattle.forecasts_ask.specs.laws.Ask.{was_refused, was_foretold}
use mathlib.Core.Path.{sym, ap, ◌∙◌}
use Rattle.std.specs.Prelude.{Some}
use Rattle.forecasts_ask.proofs.ask.ask_delete_edge.Goals as goal

pub delete_rule-requires : goal.delete_rule-requires
delete_rule-requires c = delete_edge (may_delete _ _ (sym c.delete_verdict.ensures ∙ c.in_ok-delete_verdict.was))

pub foretell-requires : goal.foretell-requires
foretell-requires c = let passes = sym c.delete_verdict.ensures ∙ c.in_ok-delete_verdict.was in
    rule_allows c.args.t.now (DeleteEdge c.args.e) passes (ap Some (sym c.delete_rule.ensures.1)) c.delete_rule.ensures.0
    (may_delete _ _ passes).good

pub returns-in_err-delete_verdict : goal.returns-in_err-delete_verdict
returns-in_err-delete_verdict c = let p = err_from_is_err_and c.from_residual.result c.from_residual.ensures.1 in
    rw (p.1, p.2) (was_refused c.args.t.now (DeleteEdge c.args.e) _ (sym c.delete_verdict.ensures ∙ c.in_err-delete_verdict.was))

pub returns : goal.returns
returns c = let passes = sym c.delete_verdict.ensures ∙ c.in_ok-delete_verdict.was in
    was_foretold c.args.t.now (DeleteEdge c.args.e) passes (ap Some (sym c.delete_rule.ensures.1)) c.delete_rule.ensures.0
    (ap Ok c.foretell.ensures)
