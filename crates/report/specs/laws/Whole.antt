-- The report, from its pieces.
use Rattle.std.specs.Prelude.{ℕ, ◌+◌, ◌<◌, ◌^◌, ◌≡◌, List, ◌++◌, map, length}
use Rattle.std.proofs.Common.{arith, sym, ◌∙◌, ap}
use Rattle.table.specs.Layout.{vertices, darts}
use Rattle.table.specs.Rotation.{rotation}
use Rattle.tracing.specs.Listing.{gather, starts, alones, lone_corner, faces}
use Rattle.surface.specs.Parts.{parts}
use Rattle.text.specs.Paste.{paste}
use Rattle.report_lines.specs.declared.walk.Place.{Place}
use Rattle.report_lines.specs.Lines.{mesh_line, part_line, walk_line, numbered, weave_line, report}
use Rattle.report_lines.specs.laws.Wrote.{Wrote, wrote_then, wrote_as, lones_most, parts_most}
use Rattle.report_lines.specs.laws.Walks.{numbered_append, PlacedAll, lone_lines}

-- the walks that start at a dart, then the empty ones
faces_numbered : (t : List ℕ) → numbered (walk_line t) 0 (starts (rotation t) darts) ++ lone_lines t (length (starts (rotation t) darts)) vertices ≡ numbered (walk_line t) 0 (faces (rotation t))
unfolding faces
faces_numbered t =
    let R = rotation t in
    let first : length (starts R darts) ≡ 0 + length (starts R darts) = omega arith in
    ap (λ n. numbered (walk_line t) 0 (starts R darts) ++ lone_lines t n vertices) first ∙ sym (numbered_append (walk_line t) 0 (starts R darts) (map lone_corner (alones R vertices)))

pub report_wrote : {t : List ℕ} {from mesh part lone r : ℕ} {walk : Place} {out o-mesh o-part o-walk o-lone out' : List ℕ} → Wrote 101 from 0 out (mesh_line (rotation t)) mesh o-mesh
    → Wrote parts_most from mesh o-mesh (gather (part_line (rotation t)) (parts (rotation t))) part o-part → PlacedAll t from part o-part walk o-walk
    → Wrote lones_most from walk.at o-walk (lone_lines t walk.index vertices) lone o-lone → Wrote 12 from lone o-lone (weave_line t) r out'
    → (r ≡ length (report t)) × (out' ≡ paste from 0 out (report t)) × (r < 2 ^ 31)
unfolding report
report_wrote {t} m p w l e =
    let all = wrote_then (wrote_then (wrote_then m p) (wrote_as (wrote_then w.wrote (rw w.index at l)) (faces_numbered t))) e in
    let end = all.pasted.end in
    let near = all.near in
    (omega arith, all.pasted.shows, omega arith)
