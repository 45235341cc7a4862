-- `meeting::meet` meets its contract: the tags of both corners, of one trace.
use Rattle.tracing_meets.specs.laws.Read.{corner_word, corners_meet}
use mathlib.Core.Path.{◌∙◌}
use Rattle.tracing_meets.proofs.meeting.meet.Goals as goal

pub tag_of-x-requires : goal.tag_of-x-requires
tag_of-x-requires c = (c.tag_faces-faces.ensures.1.size, corner_word c.requires.first)

pub tag_of-y-requires : goal.tag_of-y-requires
tag_of-y-requires c = (c.tag_faces-faces.ensures.1.size, corner_word c.requires.second)

pub returns : goal.returns
returns c = (c.tag_faces-faces.ensures.0, c.meeting_by.ensures ∙ corners_meet c.requires c.tag_faces-faces.ensures.1 c.tag_of-x.ensures c.tag_of-y.ensures)
