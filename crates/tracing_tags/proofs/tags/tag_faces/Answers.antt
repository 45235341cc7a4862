-- `tags::tag_faces` meets its contract. The invariant: the walks that start below block b are counted, and their corners tagged.
use Rattle.tracing_tags.specs.laws.Tags.{counting_none, counting_dead, count_all, tags_all}
use Rattle.table.specs.laws.Rotation.{case_yes}
use mathlib.Core.Path.{◌≡◌}
use native.Mathlib.Omega.{arith}
use Prim.Native.Nat.{◌+◌, ◌*◌}
use Rattle.tracing_tags.proofs.tags.tag_faces.Goals as goal
use Rattle.tracing_tags.proofs.tags.tag_faces.Goals.{then-not-is_dead, else-not-is_dead}

pub loop-b-init : goal.loop-b-init
loop-b-init c = counting_none c.requires.0 c.requires.1

pub is_dead-requires : goal.is_dead-requires
is_dead-requires c = (c.requires.0.size, omega arith)

pub tag_in-walks-requires : goal.tag_in-walks-requires
tag_in-walks-requires c = (omega arith, c.loop-b.invariant)

pub loop-b-preserved : goal.loop-b-preserved
loop-b-preserved c = let e : 64 * (c.loop-b.b + 1) ≡ 64 * c.loop-b.b + 64 = omega arith in
    rw e (elim c.if-not-is_dead.branch [
      | then-not-is_dead w ↦ rw (w.walks-is, w.tags-is) w.tag_in-walks.ensures
      | else-not-is_dead w ↦ rw (w.walks-is, w.tags-is) (counting_dead c.loop-b.b (omega arith) (case_yes c.is_dead.ensures w.if-not-is_dead.false) c.loop-b.invariant)
    ])

pub returns : goal.returns
returns c = let end : 64 * c.loop-b.b ≡ 2048 = omega arith in
    let all = rw end at c.loop-b.invariant in
    (count_all all c.isolated.ensures, tags_all all)
