-- `meeting::sides_by` meets its contract, a return for each way in which the corners meet.
use Rattle.tracing_meets.specs.laws.Read.{one_more}
use mathlib.Core.Path.{sym, ap, ◌∙◌}
use Rattle.tracing.proofs.laws.Sides.{sides_met}
use Rattle.tracing_meets.proofs.meeting.sides_by.Goals as goal

pub returns-in-Apart : goal.returns-in-Apart
returns-in-Apart c = ap (λ m. sides_met m c.args.odd) (sym c.in-Apart.is)

pub returns-in-SameType : goal.returns-in-SameType
returns-in-SameType c = c.within_a_face.ensures ∙ ap (λ m. sides_met m c.args.odd) (sym c.in-SameType.is)

pub returns-in-OtherType : goal.returns-in-OtherType
returns-in-OtherType c = c.within_a_face-in-OtherType.ensures ∙ one_more c.args.odd c.requires ∙ ap (λ m. sides_met m c.args.odd) (sym c.in-OtherType.is)
