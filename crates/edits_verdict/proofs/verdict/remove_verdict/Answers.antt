-- `verdict::remove_verdict` meets its contract: what it names, then whether the vertex is isolated.
use Rattle.edits.proofs.laws.Verdicts.{vertex_there_lem}
use mathlib.Core.Path.{sym, ◌∙◌}
use native.Mathlib.Omega.{arith}
use Rattle.edits_verdict.proofs.verdict.remove_verdict.Goals as goal

pub bounds-t-v : goal.bounds-t-v
bounds-t-v c = let there = vertex_there_lem _ _ (sym c.old_vertex.ensures ∙ c.in_ok-old_vertex.was) in
    let size = there.good.size in
    let low = there.low in
    omega arith
