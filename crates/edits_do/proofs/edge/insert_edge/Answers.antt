-- `edge::insert_edge` meets its contract. Inserts edge e with turns k and a length: dart 2e into corner c1, 2e+1 into c2. Answers the new face count and the rule met.
use Rattle.std.proofs.lemmas.Result.{err_from_is_err_and}
use Rattle.edits.proofs.laws.WrittenGood.{may_insert_ready}
use Rattle.edits.specs.declared.edit.Edit.TheVariants.{InsertEdge}
use Rattle.edits.proofs.laws.Rules.{insert_met, was_refused}
use Rattle.edits_rule.specs.laws.Rule.{insert_corners, rule_allows, ruled_reply}
use Rattle.edits.specs.Edge.{inserted}
use Rattle.edits.proofs.laws.Turns.{amount_on}
use Rattle.edits.proofs.laws.Verdicts.{insert_on, may_insert}
use mathlib.Core.Path.{ap, ◌∙◌}
use Rattle.edits_do.proofs.edge.insert_edge.Goals as goal

pub insert_rule-ruling-requires : goal.insert_rule-ruling-requires
insert_rule-ruling-requires c = insert_corners (may_insert c.args.t.now _ _ _ c.args.k c.args.length (insert_on c.args.t.now _ _ _ c.args.k c.args.length c.ranges.k c.insert_verdict.ensures c.in_ok-insert_verdict.was))

pub insert-requires : goal.insert-requires
insert-requires c = may_insert_ready c.args.t.now _ _ _ c.args.k c.args.length
    (may_insert c.args.t.now _ _ _ c.args.k c.args.length (insert_on c.args.t.now _ _ _ c.args.k c.args.length c.ranges.k c.insert_verdict.ensures c.in_ok-insert_verdict.was))

pub by_rule-requires : goal.by_rule-requires
by_rule-requires c = let passes = insert_on c.args.t.now _ _ _ c.args.k c.args.length c.ranges.k c.insert_verdict.ensures c.in_ok-insert_verdict.was in
    let m = may_insert c.args.t.now _ _ _ c.args.k c.args.length passes in
    rule_allows c.args.t.now (InsertEdge c.args.e c.args.c1 c.args.c2 c.args.k c.args.length) passes
    (insert_met m (amount_on 100 c.args.k c.ranges.k c.turned_word-w.ensures) c.insert_rule-ruling.ensures.1) c.insert_rule-ruling.ensures.0 m.good

pub returns-in_err-insert_verdict : goal.returns-in_err-insert_verdict
returns-in_err-insert_verdict c = let p = err_from_is_err_and c.from_residual.result c.from_residual.ensures.1 in
    rw (p.1, p.2) (was_refused c.args.t.now (InsertEdge c.args.e c.args.c1 c.args.c2 c.args.k c.args.length) _
    (insert_on c.args.t.now _ _ _ c.args.k c.args.length c.ranges.k c.insert_verdict.ensures c.in_err-insert_verdict.was))

pub returns : goal.returns
returns c = let w = amount_on 100 c.args.k c.ranges.k c.turned_word-w.ensures in
    let e = c.insert.ensures ∙ ap (λ x. inserted c.args.t.now c.args.e c.args.c1 c.args.c2 x c.args.length) w in
    let passes = insert_on c.args.t.now _ _ _ c.args.k c.args.length c.ranges.k c.insert_verdict.ensures c.in_ok-insert_verdict.was in
    ruled_reply c.args.t.now (InsertEdge c.args.e c.args.c1 c.args.c2 c.args.k c.args.length) passes
    (insert_met (may_insert c.args.t.now _ _ _ c.args.k c.args.length passes) w c.insert_rule-ruling.ensures.1) c.insert_rule-ruling.ensures.0 e c.by_rule.ensures
