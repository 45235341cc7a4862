-- `vertex::add_vertex` meets its contract. Adds vertex v. Answers the new face count.
use Rattle.std.proofs.lemmas.Result.{err_from_is_err_and}
use Rattle.edits.proofs.laws.WrittenGood.{add_good}
use Rattle.edits.specs.declared.edit.Edit.TheVariants.{AddVertex}
use Rattle.edits.proofs.laws.Edits.{went_through, was_declined}
use native.Mathlib.Omega.{arith}
use mathlib.Core.Path.{sym, ◌∙◌, refl}
use Rattle.edits.proofs.laws.Verdicts.{may_add}
use Rattle.edits_do.proofs.vertex.add_vertex.Goals as goal

pub bounds-t-v : goal.bounds-t-v
bounds-t-v c = let m = may_add _ _ (sym c.add_verdict.ensures ∙ c.in_ok-add_verdict.was) in
    let size = m.good.size in
    let low = m.low in
    omega arith

pub face_count-requires : goal.face_count-requires
face_count-requires c = add_good _ _ (may_add _ _ (sym c.add_verdict.ensures ∙ c.in_ok-add_verdict.was))

pub returns-in_err-add_verdict : goal.returns-in_err-add_verdict
returns-in_err-add_verdict c = let p = err_from_is_err_and c.from_residual.result c.from_residual.ensures.1 in
    rw (p.1, p.2) (was_declined c.args.t.now (AddVertex c.args.v) _ (sym c.add_verdict.ensures ∙ c.in_err-add_verdict.was))

pub returns : goal.returns
returns c = went_through c.args.t.now (AddVertex c.args.v) _ _ (sym c.add_verdict.ensures ∙ c.in_ok-add_verdict.was) refl
    c.face_count.ensures
