-- `letter::overs` meets its contract: half of the crossings, and the odd one by the hand and the type.
use Rattle.weave_letters.specs.laws.Counts.{overs_positive, overs_negative, crossings_most}
use native.Mathlib.Omega.{arith}
use Rattle.weave_letters.proofs.letter.overs.Goals as goal

pub overflow_add-result : goal.overflow_add-result
overflow_add-result c = let most = crossings_most (omega arith) c.crossings-n.ensures in omega arith

pub returns-then-w-gt-UNTURNED : goal.returns-then-w-gt-UNTURNED
returns-then-w-gt-UNTURNED c = overs_positive c.crossings-n.ensures c.requires c.if-w-gt-UNTURNED.true

pub overflow_add-result-2 : goal.overflow_add-result-2
overflow_add-result-2 c = let most = crossings_most (omega arith) c.crossings-n.ensures in omega arith

pub returns : goal.returns
returns c = overs_negative c.crossings-n.ensures c.requires c.if-w-gt-UNTURNED.false
