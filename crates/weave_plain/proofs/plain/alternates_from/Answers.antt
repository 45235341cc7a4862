-- `plain::alternates_from` meets its contract: no ribbon is listed at the dart, or one, which is judged.
use Rattle.weave_plain.specs.laws.Plain.{judged_none, judged_one}
use Rattle.tracing_walks.specs.laws.Size.{looked_stands}
use Rattle.weave_plain.proofs.plain.alternates_from.Goals as goal

pub is_alternating-requires : goal.is_alternating-requires
is_alternating-requires c = looked_stands c.in-Some.ensures

pub returns-in-None : goal.returns-in-None
returns-in-None c = judged_none c.in-None.ensures

pub returns-in-Some : goal.returns-in-Some
returns-in-Some c = judged_one c.in-Some.ensures c.is_alternating.ensures
