-- `hands::is_alternating` meets its contract: a ribbon alternates exactly if it does not have edges of both hands.
use Rattle.weave_plain.specs.laws.Hands.{tell_positive, tell_none}
use Rattle.weave_plain.proofs.hands.is_alternating.Goals as goal

pub returns-then-seen : goal.returns-then-seen
returns-then-seen c = tell_positive c.requires c.hands_along-seen.ensures c.if-seen.true

pub returns : goal.returns
returns c = tell_none c.requires c.hands_along-seen.ensures c.if-seen.false
