-- `ask::ask_insert_edge` meets its contract. What inserting edge e would do.
use mathlib.Core.Path.{ap}
use Rattle.std.specs.Prelude.{Ok}
use Rattle.std.proofs.lemmas.Result.{err_from_is_err_and}
use Rattle.edits.specs.declared.edit.Edit.TheVariants.{InsertEdge}
use Rattle.edits.proofs.laws.Rules.{insert_met}
use Rattle.edits.proofs.laws.Turns.{amount_on}
use Rattle.edits.proofs.laws.Verdicts.{insert_on, may_insert}
use Rattle.edits_rule.specs.laws.Rule.{insert_corners, rule_allows}
use Rattle.forecasts_ask.specs.laws.Ask.{was_refused, was_foretold}
use Rattle.forecasts_ask.proofs.ask.ask_insert_edge.Goals as goal

pub insert_rule-requires : goal.insert_rule-requires
insert_rule-requires c = insert_corners (may_insert c.args.t.now _ _ _ c.args.k c.args.length (insert_on c.args.t.now _ _ _ c.args.k c.args.length c.ranges.k c.insert_verdict.ensures c.in_ok-insert_verdict.was))

pub foretell-requires : goal.foretell-requires
foretell-requires c = let passes = insert_on c.args.t.now _ _ _ c.args.k c.args.length c.ranges.k c.insert_verdict.ensures c.in_ok-insert_verdict.was in
    let m = may_insert c.args.t.now _ _ _ c.args.k c.args.length passes in
    rule_allows c.args.t.now (InsertEdge c.args.e c.args.c1 c.args.c2 c.args.k c.args.length) passes
    (insert_met m (amount_on 100 c.args.k c.ranges.k c.turned_word-w.ensures) c.insert_rule.ensures.1) c.insert_rule.ensures.0 m.good

pub returns-in_err-insert_verdict : goal.returns-in_err-insert_verdict
returns-in_err-insert_verdict c = let p = err_from_is_err_and c.from_residual.result c.from_residual.ensures.1 in
    rw (p.1, p.2) (was_refused c.args.t.now (InsertEdge c.args.e c.args.c1 c.args.c2 c.args.k c.args.length) _
    (insert_on c.args.t.now _ _ _ c.args.k c.args.length c.ranges.k c.insert_verdict.ensures c.in_err-insert_verdict.was))

pub returns : goal.returns
returns c = let w = amount_on 100 c.args.k c.ranges.k c.turned_word-w.ensures in
    let passes = insert_on c.args.t.now _ _ _ c.args.k c.args.length c.ranges.k c.insert_verdict.ensures c.in_ok-insert_verdict.was in
    was_foretold c.args.t.now (InsertEdge c.args.e c.args.c1 c.args.c2 c.args.k c.args.length) passes
    (insert_met (may_insert c.args.t.now _ _ _ c.args.k c.args.length passes) w c.insert_rule.ensures.1) c.insert_rule.ensures.0 (ap Ok c.foretell.ensures)
