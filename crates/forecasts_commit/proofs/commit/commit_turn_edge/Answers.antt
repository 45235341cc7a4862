-- `commit::commit_turn_edge` meets its contract. Turns edge e by an amount if the forecast holds.
use Rattle.std.proofs.lemmas.Result.{err_from_is_err_and}
use Rattle.edits.specs.declared.edit.Edit.TheVariants.{TurnEdge}
use Rattle.edits.proofs.laws.Turns.{amount_on}
use Rattle.edits.proofs.laws.Verdicts.{may_turn}
use Rattle.forecasts.proofs.laws.Forecast.{asked_turn}
use Rattle.forecasts_commit.specs.laws.Commit.{judges, may_edit, was_refused, was_done}
use Rattle.table.specs.Layout.{edge_word}
use Rattle.table.specs.Writes.{set_edge}
use native.Mathlib.Omega.{arith}
use mathlib.Core.Path.{refl, sym, ap, ◌∙◌}
use Rattle.forecasts_commit.proofs.commit.commit_turn_edge.Goals as goal

pub bounds-t-e : goal.bounds-t-e
bounds-t-e c = let edit = TurnEdge c.args.e c.args.amount in
    let judged = judges c.args.t.now edit c.args.forecast (asked_turn c.args.t.now _ c.args.amount c.ranges.amount c.ask_turn_edge.ensures) c.commit_verdict.ensures in
    let m = may_turn c.args.t.now _ c.args.amount (may_edit c.args.t.now edit c.args.forecast (sym judged ∙ c.in_ok-commit_verdict.was)) in
    let size = m.good.size in
    let low = m.low in
    omega arith

pub bounds-t-e-2 : goal.bounds-t-e-2
bounds-t-e-2 c = let edit = TurnEdge c.args.e c.args.amount in
    let judged = judges c.args.t.now edit c.args.forecast (asked_turn c.args.t.now _ c.args.amount c.ranges.amount c.ask_turn_edge.ensures) c.commit_verdict.ensures in
    let m = may_turn c.args.t.now _ c.args.amount (may_edit c.args.t.now edit c.args.forecast (sym judged ∙ c.in_ok-commit_verdict.was)) in
    let size = m.good.size in
    let low = m.low in
    omega arith

pub returns-in_err-commit_verdict : goal.returns-in_err-commit_verdict
returns-in_err-commit_verdict c = let p = err_from_is_err_and c.from_residual.result c.from_residual.ensures.1 in
    rw (p.1, p.2) (let edit = TurnEdge c.args.e c.args.amount in
    let judged = judges c.args.t.now edit c.args.forecast (asked_turn c.args.t.now _ c.args.amount c.ranges.amount c.ask_turn_edge.ensures) c.commit_verdict.ensures in
    was_refused c.args.t.now edit c.args.forecast _ (sym judged ∙ c.in_err-commit_verdict.was))

pub returns : goal.returns
returns c = let edit = TurnEdge c.args.e c.args.amount in
    let judged = judges c.args.t.now edit c.args.forecast (asked_turn c.args.t.now _ c.args.amount c.ranges.amount c.ask_turn_edge.ensures) c.commit_verdict.ensures in
    let w = amount_on (edge_word c.args.t.now c.args.e) c.args.amount c.ranges.amount c.turned_word.ensures in
    was_done c.args.t.now edit c.args.forecast refl (sym judged ∙ c.in_ok-commit_verdict.was) c.told.ensures (ap (set_edge c.args.t.now c.args.e) w)
