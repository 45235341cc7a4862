-- `length::length_along` meets its contract: what the steps of the walk take up, summed, and the lap.
use Rattle.std.proofs.Common.{◌∙◌, ◌+◌, sym, ◌≡◌, ap, arith, rules}
use Rattle.std.proofs.lemmas.Iterator.{YieldsList-from_map}
use Rattle.std.proofs.lemmas.Iterator.Adapters.{serves_from_places}
use Rattle.std.proofs.lemmas.Iterator.Consumers.{sum_by_from_yields_List, fits_by_from_yields_list}
use Rattle.table.specs.Rotation.{rotation}
use Rattle.tracing.specs.Walk.{walk}
use Rattle.tracing_walks.specs.laws.Steps.{steps_left, walk_road, walk_item, sum_total}
use Rattle.tracing.specs.Met.{total}
use Rattle.lengths.specs.CutLength.{taken_by}
use Rattle.lengths.specs.laws.Summing.{cut_total, walk_taken}
use Rattle.lengths.proofs.length.length_along.Goals as goal
use Rattle.lengths.proofs.length.length_along.Goals.{After-sum}

pub sum-requires-clause-can : goal.sum-requires-clause-can
sum-requires-clause-can c =
    let road = walk_road c.args.t.now c.args.s (ap steps_left c.map.ensures.source ∙ c.walk.ensures) in
    (tt, rw c.map.ensures.closure (serves_from_places road (λ x q k. search rules) (λ x k l e. let stands = walk_item c.requires x k l e in search rules)))

pub sum-requires-clause-fits : goal.sum-requires-clause-fits
sum-requires-clause-fits c =
    let t = c.args.t.now in
    let steps = walk (rotation t) c.args.s in
    let road = walk_road t c.args.s (ap steps_left c.map.ensures.source ∙ c.walk.ensures) in
    let most = walk_taken c.requires in
    let same = sum_total (taken_by t) steps in
    fits_by_from_yields_list (taken_by t) steps c.map.result _ (YieldsList-from_map _ (taken_by t) road c.map.ensures.closure (λ x r q k. search rules)) (omega arith)

-- what the chain sums
taken : (c : After-sum) → c.sum.result ≡ total (taken_by c.args.t.now) (walk (rotation c.args.t.now) c.args.s)
taken c =
    let t = c.args.t.now in
    let steps = walk (rotation t) c.args.s in
    let road = walk_road t c.args.s (ap steps_left c.map.ensures.source ∙ c.walk.ensures) in
    sum_by_from_yields_List (taken_by t) steps c.map.result c.sum.result c.sum.ensures.ran
    (YieldsList-from_map _ (taken_by t) road c.map.ensures.closure (λ x r q k. search rules)) ∙ sum_total (taken_by t) steps

pub overflow_add-result : goal.overflow_add-result
overflow_add-result c = let most = walk_taken c.requires in let all = taken (goal.at.overflow_add-result c).After-sum in omega arith

pub returns : goal.returns
returns c = ap (λ n. n + 320) (taken (goal.at.returns c).After-sum) ∙ sym (cut_total c.args.t.now c.args.s)
