-- `vertex::remove_vertex` meets its contract. Removes the isolated vertex v. Answers the new face count.
use Rattle.std.proofs.lemmas.Result.{err_from_is_err_and}
use Rattle.edits.proofs.laws.WrittenGood.{remove_good}
use Rattle.edits.specs.declared.edit.Edit.TheVariants.{RemoveVertex}
use Rattle.edits.proofs.laws.Edits.{went_through, was_declined}
use mathlib.Core.Path.{sym, ◌∙◌, refl}
use Rattle.edits.proofs.laws.Verdicts.{may_remove}
use Rattle.edits_do.proofs.vertex.remove_vertex.Goals as goal

pub face_count-requires : goal.face_count-requires
face_count-requires c = remove_good _ _ (may_remove _ _ (sym c.remove_verdict.ensures ∙ c.in_ok-remove_verdict.was))

pub returns-in_err-remove_verdict : goal.returns-in_err-remove_verdict
returns-in_err-remove_verdict c = let p = err_from_is_err_and c.from_residual.result c.from_residual.ensures.1 in
    rw (p.1, p.2) (was_declined c.args.t.now (RemoveVertex c.args.v) _ (sym c.remove_verdict.ensures ∙ c.in_err-remove_verdict.was))

pub returns : goal.returns
returns c = went_through c.args.t.now (RemoveVertex c.args.v) _ _ (sym c.remove_verdict.ensures ∙ c.in_ok-remove_verdict.was) refl
    c.face_count.ensures
