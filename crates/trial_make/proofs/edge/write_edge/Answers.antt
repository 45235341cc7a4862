-- `edge::write_edge` meets its contract: three draws, the corners as they were before, the record, then the darts.
use Rattle.trial_jobs.specs.Trial.{trial_size}
use Rattle.records_write.specs.Encoding.{record_of}
use lib.Seq.{sets}
use Rattle.std.proofs.Common.{refl, ap, ◌∙◌, arith}
use Rattle.trial_make.specs.laws.Edge.{Drawn, drawn_state, drawn_edge, drawn_corners}
use Rattle.trial_make.specs.laws.Draws.{turns_are}
use Rattle.trial_make.proofs.edge.write_edge.Goals as goal

pub returns : goal.returns
returns c = let q : Drawn c.args.s c.after_draw-once.result c.after_draw-twice.result c.after_draw-thrice.result c.draw-a.result c.draw-b.result =
    record { once = c.after_draw-once.ensures; twice = c.after_draw-twice.ensures; thrice = c.after_draw-thrice.ensures; first = c.draw-a.ensures; second = c.draw-b.ensures } in
    let k = turns_are c.draw.result 1 (omega arith) (omega arith) in (
      drawn_state q c.args.corners.now c.args.e,
      c.write_ends.ensures ∙ ap (λ E. sets c.args.out.now (trial_size c.args.e) (record_of E)) (drawn_edge q c.args.corners.now c.args.e c.draw.ensures refl refl k),
      drawn_corners q c.args.corners.now c.args.e c.give_dart.ensures c.give_dart-2.ensures,
    )
