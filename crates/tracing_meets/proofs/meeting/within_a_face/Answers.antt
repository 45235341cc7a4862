-- `meeting::within_a_face` meets its contract.
use Rattle.tracing_meets.specs.laws.Read.{other_side}
use Rattle.tracing_meets.proofs.meeting.within_a_face.Goals as goal

pub returns : goal.returns
returns c = other_side _ c.if-odd-eq0.false
