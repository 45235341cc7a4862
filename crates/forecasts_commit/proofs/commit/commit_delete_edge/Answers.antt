-- `commit::commit_delete_edge` meets its contract. Deletes edge e if the forecast holds.
use Rattle.std.proofs.lemmas.Result.{err_from_is_err_and}
use Rattle.edits.specs.declared.edit.Edit.TheVariants.{DeleteEdge}
use Rattle.edits.proofs.laws.Verdicts.{may_delete}
use Rattle.edits.proofs.laws.WrittenGood.{may_delete_ready}
use Rattle.forecasts_commit.specs.laws.Commit.{judges, may_edit, was_refused, was_done}
use mathlib.Core.Path.{refl, sym, ◌∙◌}
use Rattle.forecasts_commit.proofs.commit.commit_delete_edge.Goals as goal

pub delete-requires : goal.delete-requires
delete-requires c = let edit = DeleteEdge c.args.e in
    let judged = judges c.args.t.now edit c.args.forecast c.ask_delete_edge.ensures c.commit_verdict.ensures in
    may_delete_ready _ _ (may_delete _ _ (may_edit c.args.t.now edit c.args.forecast (sym judged ∙ c.in_ok-commit_verdict.was)))

pub returns-in_err-commit_verdict : goal.returns-in_err-commit_verdict
returns-in_err-commit_verdict c = let p = err_from_is_err_and c.from_residual.result c.from_residual.ensures.1 in
    rw (p.1, p.2) (let edit = DeleteEdge c.args.e in
    let judged = judges c.args.t.now edit c.args.forecast c.ask_delete_edge.ensures c.commit_verdict.ensures in
    was_refused c.args.t.now edit c.args.forecast _ (sym judged ∙ c.in_err-commit_verdict.was))

pub returns : goal.returns
returns c = let edit = DeleteEdge c.args.e in
    let judged = judges c.args.t.now edit c.args.forecast c.ask_delete_edge.ensures c.commit_verdict.ensures in
    was_done c.args.t.now edit c.args.forecast refl (sym judged ∙ c.in_ok-commit_verdict.was) c.told.ensures c.delete.ensures
