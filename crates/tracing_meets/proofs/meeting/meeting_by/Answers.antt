-- `meeting::meeting_by` meets its contract: equal tags, tags of one face, tags of two.
use Rattle.tracing_meets.specs.laws.Read.{same_tags, one_face, two_faces}
use Rattle.tracing_meets.proofs.meeting.meeting_by.Goals as goal

pub returns-then-x-y : goal.returns-then-x-y
returns-then-x-y c = same_tags _ _ c.if-x-y.true

pub returns-then-x-y-2 : goal.returns-then-x-y-2
returns-then-x-y-2 c = one_face _ _ c.if-x-y.false c.if-x-y-2.true

pub returns : goal.returns
returns c = two_faces _ _ c.if-x-y-2.false
