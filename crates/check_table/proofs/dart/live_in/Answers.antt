-- `dart::live_in` meets its contract. The loop keeps `RuledBelow`, and the count is that of the edges so far.
use Rattle.check_reads.proofs.laws.Tests.{Told, told_is, told_all, told_goes, told_in_fails, told_in_goes, along_none, along_more, along_stops}
use Rattle.check_reads.proofs.laws.Darts.{dart_case}
use Rattle.check_reads.specs.Reads.{edge_tests}
use Rattle.table.specs.laws.Darts.{passed_few, passed_two_live, passed_two_dead, passed_broken}
use mathlib.Core.Bool.{true, false}
use mathlib.Core.Path.{◌≡◌, refl, sym, ◌∙◌}
use Rattle.table.specs.laws.Rotation.{case_yes, case_no}
use native.Mathlib.Omega.{arith}
use Prim.Native.Nat.{◌+◌, ◌*◌}
use Rattle.check_table.proofs.dart.live_in.Goals as goal
use Rattle.check_table.proofs.dart.live_in.Goals.{then-w-ne0, else-w-ne0}

pub loop-e-init : goal.loop-e-init
loop-e-init g c = let q : 2 * (32 * c.args.b) ≡ 64 * c.args.b = omega arith in
    (rw q c.requires.1, along_none)

pub returns-then-not-keeps_rule : goal.returns-then-not-keeps_rule
returns-then-not-keeps_rule g c = let one = told_is c.if-not-keeps_rule.true c.keeps_rule.ensures in
    let edge : Told g.C.Counter.shows (edge_tests c.args.t.now c.loop-e.e) false c.loop-e.reads _ = told_goes c.read-w.ensures.1 refl (told_in_fails one) in
    (passed_broken _ _ _ (omega arith) (case_no (dart_case c.args.t.now (2 * c.loop-e.e)) (sym one.verdict)), along_stops c.loop-e.invariant.1 edge 32 (omega arith) refl)

pub returns-then-not-keeps_rule-2 : goal.returns-then-not-keeps_rule-2
returns-then-not-keeps_rule-2 g c = let one = told_is c.if-not-keeps_rule.false c.keeps_rule.ensures in
    let two = told_is c.if-not-keeps_rule-2.true c.keeps_rule-in-loop-e.ensures in
    let edge : Told g.C.Counter.shows (edge_tests c.args.t.now c.loop-e.e) false c.loop-e.reads _ = told_goes c.read-w.ensures.1 refl (told_in_goes one (told_in_fails two)) in
    (passed_broken _ _ _ (omega arith) (case_no (dart_case c.args.t.now (2 * c.loop-e.e + 1)) (sym two.verdict)), along_stops c.loop-e.invariant.1 edge 32 (omega arith) refl)

pub overflow_add-live : goal.overflow_add-live
overflow_add-live g c = omega (arith, passed_few _ _ _ c.loop-e.invariant.0)

pub loop-e-preserved : goal.loop-e-preserved
loop-e-preserved g c = let one = told_is c.if-not-keeps_rule.false c.keeps_rule.ensures in
    let two = told_is c.if-not-keeps_rule-2.false c.keeps_rule-in-loop-e.ensures in
    let first = case_yes (dart_case c.args.t.now (2 * c.loop-e.e)) (sym one.verdict) in
    let second = case_yes (dart_case c.args.t.now (2 * c.loop-e.e + 1)) (sym two.verdict) in
    let edge : Told g.C.Counter.shows (edge_tests c.args.t.now c.loop-e.e) true c.loop-e.reads _ = told_goes c.read-w.ensures.1 refl (told_in_goes one (told_in_goes two told_all)) in
    let along = along_more c.loop-e.invariant.1 edge refl in
    elim c.if-w-ne0.branch [
      | then-w-ne0 w ↦ rw w.live-is (passed_two_live _ _ _ c.loop-e.invariant.0 (omega arith) first second (λ q. w.if-w-ne0.true (c.read-w.ensures.0 ∙ q)), along)
      | else-w-ne0 w ↦ rw w.live-is (passed_two_dead _ _ _ c.loop-e.invariant.0 (omega arith) first second (sym c.read-w.ensures.0 ∙ w.if-w-ne0.false), along)
    ]
