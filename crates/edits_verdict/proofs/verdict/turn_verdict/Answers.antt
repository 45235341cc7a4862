-- `verdict::turn_verdict` meets its contract: what it names, then whether the turns would pass 99.
use Rattle.edits.proofs.laws.Verdicts.{edge_there_lem}
use mathlib.Core.Path.{sym, ◌∙◌}
use native.Mathlib.Omega.{arith}
use Rattle.edits_verdict.proofs.verdict.turn_verdict.Goals as goal

pub bounds-t-e : goal.bounds-t-e
bounds-t-e c = let there = edge_there_lem _ _ (sym c.old_edge.ensures ∙ c.in_ok-old_edge.was) in
    let size = there.good.size in
    let low = there.low in
    omega arith
