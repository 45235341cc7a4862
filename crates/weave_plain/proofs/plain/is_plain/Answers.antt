-- `plain::is_plain` meets its contract: a block without a live edge is passed over, and every other one judged after those below it.
use native.Mathlib.Omega.{arith}
use Rattle.std.specs.Prelude.{◌≡◌, ◌*◌, ◌+◌}
use Rattle.table.specs.laws.Rotation.{case_yes}
use Rattle.weave_plain.specs.laws.Plain.{judging_none, judging_dead, judging_all}
use Rattle.weave_plain.proofs.plain.is_plain.Goals as goal
use Rattle.weave_plain.proofs.plain.is_plain.Goals.{else-not-is_dead-via-then-not-is_dead+else-not-alternate_in, else-not-is_dead-via-else-not-is_dead}

pub loop-b-init : goal.loop-b-init
loop-b-init c = judging_none c.requires

pub loop-b-preserved : goal.loop-b-preserved
loop-b-preserved c = let e : 64 * (c.loop-b.b + 1) ≡ 64 * c.loop-b.b + 64 = omega arith in
    rw e (elim c.else-not-is_dead.branch [
      | else-not-is_dead-via-then-not-is_dead+else-not-alternate_in w ↦ rw w.met-is (w.alternate_in.ensures.goes_on w.if-not-alternate_in.false)
      | else-not-is_dead-via-else-not-is_dead w ↦ rw w.met-is (judging_dead c.loop-b.b (omega arith) (case_yes c.is_dead.ensures w.if-not-is_dead.false) c.loop-b.invariant)
    ])

pub returns : goal.returns
returns c = let end : 64 * c.loop-b.b ≡ 2048 = omega arith in judging_all (rw end at c.loop-b.invariant)
