-- `ribbon::letter_count` meets its contract: the crossings of the steps of the walk, summed.
use Rattle.std.proofs.Common.{◌∙◌, refl, ap, arith, rules}
use Rattle.std.proofs.lemmas.Iterator.{YieldsList-from_map}
use Rattle.std.proofs.lemmas.Iterator.Adapters.{serves_from_places}
use Rattle.std.proofs.lemmas.Iterator.Consumers.{sum_by_from_yields_List, fits_by_from_yields_list}
use Rattle.table.specs.Rotation.{rotation}
use Rattle.tracing.specs.Walk.{walk}
use Rattle.tracing_walks.specs.laws.Steps.{steps_left, walk_road, walk_item, sum_total}
use Rattle.weave.specs.Letters.{crossings, word_of}
use Rattle.weave_letters.specs.laws.Passing.{letters_count}
use Rattle.weave_letters.proofs.ribbon.letter_count.Goals as goal

pub sum-requires-clause-can : goal.sum-requires-clause-can
sum-requires-clause-can c =
    let road = walk_road c.args.t.now c.args.s (ap steps_left c.map.ensures.source ∙ c.walk.ensures) in
    (tt, rw c.map.ensures.closure (serves_from_places road (λ x q k. search rules) (λ x k l e. let stands = walk_item c.requires x k l e in search rules)))

pub sum-requires-clause-fits : goal.sum-requires-clause-fits
sum-requires-clause-fits c =
    let t = c.args.t.now in
    let steps = walk (rotation t) c.args.s in
    let road = walk_road t c.args.s (ap steps_left c.map.ensures.source ∙ c.walk.ensures) in
    let most = (letters_count c.requires refl).low in
    let same = sum_total (λ x. crossings (word_of t x)) steps in
    fits_by_from_yields_list (λ x. crossings (word_of t x)) steps c.map.result _ (YieldsList-from_map _ (λ x. crossings (word_of t x)) road c.map.ensures.closure (λ x r q k. search rules)) (omega arith)

pub returns : goal.returns
returns c =
    let t = c.args.t.now in
    let steps = walk (rotation t) c.args.s in
    let road = walk_road t c.args.s (ap steps_left c.map.ensures.source ∙ c.walk.ensures) in
    letters_count c.requires
    (sum_by_from_yields_List (λ x. crossings (word_of t x)) steps c.map.result c.sum.result c.sum.ensures.ran
    (YieldsList-from_map _ (λ x. crossings (word_of t x)) road c.map.ensures.closure (λ x r q k. search rules)) ∙ sum_total (λ x. crossings (word_of t x)) steps)
