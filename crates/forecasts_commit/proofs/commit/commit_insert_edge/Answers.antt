-- `commit::commit_insert_edge` meets its contract. Inserts edge e if the forecast holds.
use Rattle.std.proofs.lemmas.Result.{err_from_is_err_and}
use Rattle.edits.specs.Edge.{inserted}
use Rattle.edits.specs.declared.edit.Edit.TheVariants.{InsertEdge}
use Rattle.edits.proofs.laws.Turns.{amount_on}
use Rattle.edits.proofs.laws.Verdicts.{may_insert}
use Rattle.edits.proofs.laws.WrittenGood.{may_insert_ready}
use Rattle.forecasts.proofs.laws.Forecast.{asked_insertion}
use Rattle.forecasts_commit.specs.laws.Commit.{judges, may_edit, was_refused, was_done}
use mathlib.Core.Path.{refl, sym, ap, ◌∙◌}
use Rattle.forecasts_commit.proofs.commit.commit_insert_edge.Goals as goal

pub insert-requires : goal.insert-requires
insert-requires c = let edit = InsertEdge c.args.e c.args.c1 c.args.c2 c.args.k c.args.length in
    let judged = judges c.args.t.now edit c.args.forecast (asked_insertion c.args.t.now _ _ _ c.args.k c.args.length c.ranges.k c.ask_insert_edge.ensures) c.commit_verdict.ensures in
    may_insert_ready c.args.t.now _ _ _ c.args.k c.args.length (may_insert c.args.t.now _ _ _ c.args.k c.args.length (may_edit c.args.t.now edit c.args.forecast (sym judged ∙ c.in_ok-commit_verdict.was)))

pub returns-in_err-commit_verdict : goal.returns-in_err-commit_verdict
returns-in_err-commit_verdict c = let p = err_from_is_err_and c.from_residual.result c.from_residual.ensures.1 in
    rw (p.1, p.2) (let edit = InsertEdge c.args.e c.args.c1 c.args.c2 c.args.k c.args.length in
    let judged = judges c.args.t.now edit c.args.forecast (asked_insertion c.args.t.now _ _ _ c.args.k c.args.length c.ranges.k c.ask_insert_edge.ensures) c.commit_verdict.ensures in
    was_refused c.args.t.now edit c.args.forecast _ (sym judged ∙ c.in_err-commit_verdict.was))

pub returns : goal.returns
returns c = let edit = InsertEdge c.args.e c.args.c1 c.args.c2 c.args.k c.args.length in
    let judged = judges c.args.t.now edit c.args.forecast (asked_insertion c.args.t.now _ _ _ c.args.k c.args.length c.ranges.k c.ask_insert_edge.ensures) c.commit_verdict.ensures in
    let w = amount_on 100 c.args.k c.ranges.k c.turned_word-w.ensures in
    was_done c.args.t.now edit c.args.forecast refl (sym judged ∙ c.in_ok-commit_verdict.was) c.told.ensures
    (c.insert.ensures ∙ ap (λ x. inserted c.args.t.now c.args.e c.args.c1 c.args.c2 x c.args.length) w)
