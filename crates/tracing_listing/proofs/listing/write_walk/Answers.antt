-- `listing::write_walk` meets its contract. The invariant: the steps so far are written.
use Rattle.std.proofs.Common.{◌∙◌, ap}
use Rattle.std.proofs.lemmas.List.{map-append}
use Rattle.std.specs.Iterator.Adapters.{enumerate_source, enumerate_count}
use Rattle.tracing_walks.specs.laws.Steps.{steps_left}
use Rattle.tracing_listing.specs.laws.Writing.{stepping_none, stepping_within, stepping_more, stepping_all}
use Rattle.tracing_listing.proofs.listing.write_walk.Goals as goal

pub loop-n-init : goal.loop-n-init
loop-n-init c =
    let made = c.into_iter-n-iterator.ensures.into_iter_gives in
    stepping_none c.requires.0 c.requires.1
    (ap (λ i. steps_left (enumerate_source i)) made ∙ ap steps_left c.enumerate-n-items.ensures.source ∙ c.walk.ensures)
    (ap enumerate_count made ∙ c.enumerate-n-items.ensures.count)

pub bounds-out-start : goal.bounds-out-start
bounds-out-start c = let next = c.in-Some.ensures.steps in rw next.1 (stepping_within c.loop-n.invariant next.0)

pub loop-n-preserved : goal.loop-n-preserved
loop-n-preserved c = let next = c.in-Some.ensures.steps in rw (map-append, next.1) (stepping_more c.loop-n.invariant next.0 next.2)

pub returns : goal.returns
returns c = stepping_all c.loop-n.invariant c.in-None.ensures.steps.0.0
