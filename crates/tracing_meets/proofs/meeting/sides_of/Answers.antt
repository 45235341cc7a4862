-- `meeting::sides_of` meets its contract: the tags of the corners of both sides, of one trace.
use Rattle.tracing_meets.specs.laws.Read.{edge_near, side_stands, side_low, sides_read}
use mathlib.Core.Path.{◌∙◌, ap}
use Rattle.tracing.proofs.laws.Sides.{sides_met}
use native.Mathlib.Omega.{arith}
use Prim.Native.Nat.{◌%◌}
use Rattle.table.specs.Layout.{edge_word}
use Rattle.tracing_meets.proofs.meeting.sides_of.Goals as goal

pub overflow_add-odd : goal.overflow_add-odd
overflow_add-odd c = let n = edge_near c.requires in omega arith

pub offset_bounds-t-e : goal.offset_bounds-t-e
offset_bounds-t-e c = let n = edge_near c.requires in omega arith

pub bounds-t-e : goal.bounds-t-e
bounds-t-e c = let n = edge_near c.requires in omega arith

pub overflow_cast-e : goal.overflow_cast-e
overflow_cast-e c = let n = edge_near c.requires in omega arith

pub overflow_mul-e : goal.overflow_mul-e
overflow_mul-e c = let n = edge_near c.requires in omega arith

pub overflow_add-e : goal.overflow_add-e
overflow_add-e c = let n = edge_near c.requires in omega arith

pub overflow_add-e-2 : goal.overflow_add-e-2
overflow_add-e-2 c = let n = edge_near c.requires in omega arith

pub corner-c-requires : goal.corner-c-requires
corner-c-requires c = side_stands c.requires

pub overflow_cast-e-2 : goal.overflow_cast-e-2
overflow_cast-e-2 c = let n = edge_near c.requires in omega arith

pub overflow_mul-e-2 : goal.overflow_mul-e-2
overflow_mul-e-2 c = let n = edge_near c.requires in omega arith

pub tag_of-x-requires : goal.tag_of-x-requires
tag_of-x-requires c = (c.tag_faces-faces.ensures.1.size, λ h. let n = edge_near c.requires in omega arith)

pub overflow_cast-c : goal.overflow_cast-c
overflow_cast-c c = let low = side_low c.requires c.tag_faces-faces.ensures.1 c.corner-c.ensures in omega arith

pub tag_of-y-requires : goal.tag_of-y-requires
tag_of-y-requires c = let low = side_low c.requires c.tag_faces-faces.ensures.1 c.corner-c.ensures in
    (c.tag_faces-faces.ensures.1.size, λ h. low)

pub returns : goal.returns
returns c = let read = sides_read c.requires c.tag_faces-faces.ensures.1 c.corner-c.ensures c.tag_of-x.ensures c.tag_of-y.ensures in
    (c.tag_faces-faces.ensures.0, c.sides_by.ensures ∙ ap (λ m. sides_met m (edge_word c.args.t.now c.args.e % 2)) c.meeting_by.ensures ∙ read)
