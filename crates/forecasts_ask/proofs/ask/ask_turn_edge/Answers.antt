-- `ask::ask_turn_edge` meets its contract. What turning edge e by an amount would do.
use mathlib.Core.Path.{ap}
use Rattle.std.specs.Prelude.{Ok}
use Rattle.std.proofs.lemmas.Result.{err_from_is_err_and}
use Rattle.edits.specs.declared.edit.Edit.TheVariants.{TurnEdge}
use Rattle.edits.proofs.laws.Rules.{turn_met}
use Rattle.edits.proofs.laws.Turns.{amount_on}
use Rattle.edits.proofs.laws.Verdicts.{turn_on, may_turn}
use Rattle.edits_rule.specs.laws.Rule.{turn_edge, rule_allows}
use Rattle.table.specs.Layout.{edge_word}
use Rattle.forecasts_ask.specs.laws.Ask.{was_refused, was_foretold}
use native.Mathlib.Omega.{arith}
use Rattle.forecasts_ask.proofs.ask.ask_turn_edge.Goals as goal

pub bounds-t-e : goal.bounds-t-e
bounds-t-e c = let passes = turn_on c.args.t.now _ c.args.amount c.ranges.amount c.turn_verdict.ensures c.in_ok-turn_verdict.was in
    let m = may_turn _ _ c.args.amount passes in
    let size = m.good.size in
    let low = m.low in
    omega arith

pub turn_rule-requires : goal.turn_rule-requires
turn_rule-requires c = turn_edge (may_turn c.args.t.now _ c.args.amount (turn_on c.args.t.now _ c.args.amount c.ranges.amount c.turn_verdict.ensures c.in_ok-turn_verdict.was))

pub foretell-requires : goal.foretell-requires
foretell-requires c = let passes = turn_on c.args.t.now _ c.args.amount c.ranges.amount c.turn_verdict.ensures c.in_ok-turn_verdict.was in
    let m = may_turn c.args.t.now _ c.args.amount passes in
    rule_allows c.args.t.now (TurnEdge c.args.e c.args.amount) passes
    (turn_met m (amount_on (edge_word c.args.t.now c.args.e) c.args.amount c.ranges.amount c.turned_word-w.ensures) c.turn_rule.ensures.1) c.turn_rule.ensures.0 m.good

pub returns-in_err-turn_verdict : goal.returns-in_err-turn_verdict
returns-in_err-turn_verdict c = let p = err_from_is_err_and c.from_residual.result c.from_residual.ensures.1 in
    rw (p.1, p.2) (was_refused c.args.t.now (TurnEdge c.args.e c.args.amount) _ (turn_on c.args.t.now _ c.args.amount c.ranges.amount c.turn_verdict.ensures c.in_err-turn_verdict.was))

pub returns : goal.returns
returns c = let w = amount_on (edge_word c.args.t.now c.args.e) c.args.amount c.ranges.amount c.turned_word-w.ensures in
    let passes = turn_on c.args.t.now _ c.args.amount c.ranges.amount c.turn_verdict.ensures c.in_ok-turn_verdict.was in
    was_foretold c.args.t.now (TurnEdge c.args.e c.args.amount) passes
    (turn_met (may_turn c.args.t.now _ c.args.amount passes) w c.turn_rule.ensures.1) c.turn_rule.ensures.0 (ap Ok c.foretell.ensures)
