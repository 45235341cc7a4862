-- `write_message` meets its contract: the bytes of each line are those of its definition, and there is room for them.
use Rattle.trial.specs.laws.Program.{laid_pasted, laid_as}
use Rattle.trial.specs.Program.{message}
use Rattle.text.specs.Decimal.{decimal, digits_by}
use Rattle.std.proofs.Common.{Err}
use mathlib.Core.Path.{sym, ap}
use native.Mathlib.Omega.{arith}
use Rattle.trial.proofs.write_message.Goals as goal

pub returns-in-Usage : goal.returns-in-Usage
unfolding message
returns-in-Usage c = laid_as (laid_pasted (omega arith) c.bytes.ensures) (sym (ap (λ m. message (Err m)) c.in-Usage.is))

pub returns-in-BadStart : goal.returns-in-BadStart
unfolding message decimal digits_by
returns-in-BadStart c = laid_as (laid_pasted (omega arith) c.bytes-in-BadStart.ensures) (sym (ap (λ m. message (Err m)) c.in-BadStart.is))

pub returns-in-BadEdges : goal.returns-in-BadEdges
unfolding message decimal digits_by
returns-in-BadEdges c = laid_as (laid_pasted (omega arith) c.bytes-in-BadEdges.ensures) (sym (ap (λ m. message (Err m)) c.in-BadEdges.is))
