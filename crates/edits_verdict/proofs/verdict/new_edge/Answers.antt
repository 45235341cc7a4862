-- `verdict::new_edge` meets its contract, an edge to insert and its corners: an end for each test.
use Rattle.edits.proofs.laws.Verdicts.{names_are}
use Rattle.edits.specs.Verdicts.{new_edge}
use Rattle.table.specs.laws.Check.{seen_good, seen_torn}
use borrow.Author.Tests.{eq-eqb, ne_eqb}
use mathlib.Core.Path.{sym, ◌∙◌}
use native.Mathlib.Omega.{arith}
use Rattle.edits_verdict.proofs.verdict.new_edge.Goals as goal

pub returns-then-not-is_good : goal.returns-then-not-is_good
unfolding new_edge
returns-then-not-is_good c = simp (seen_torn c.args.t.now c.is_good.ensures c.if-not-is_good.true)

pub returns-then-not-are_names : goal.returns-then-not-are_names
unfolding new_edge
returns-then-not-are_names c = simp ((seen_good c.args.t.now c.is_good.ensures c.if-not-is_good.false).0, sym c.are_names.ensures ∙ c.if-not-are_names.true)

pub bounds-t-e : goal.bounds-t-e
bounds-t-e c = let size = (seen_good c.args.t.now c.is_good.ensures c.if-not-is_good.false).1.size in
    let low = (names_are c.args.e c.args.c1 c.args.c2 (sym c.are_names.ensures ∙ c.if-not-are_names.false)).low in
    omega arith

pub returns-then-t-e-ne0 : goal.returns-then-t-e-ne0
unfolding new_edge
returns-then-t-e-ne0 c = simp
    ((seen_good c.args.t.now c.is_good.ensures c.if-not-is_good.false).0, sym c.are_names.ensures ∙ c.if-not-are_names.false, ne_eqb _ _ c.if-t-e-ne0.true)

pub are_present-requires : goal.are_present-requires
are_present-requires c = let n = names_are c.args.e c.args.c1 c.args.c2 (sym c.are_names.ensures ∙ c.if-not-are_names.false) in
    ((seen_good c.args.t.now c.is_good.ensures c.if-not-is_good.false).1, n.first, n.second)

pub returns-then-not-are_present : goal.returns-then-not-are_present
unfolding new_edge
returns-then-not-are_present c = simp (
  (seen_good c.args.t.now c.is_good.ensures c.if-not-is_good.false).0,
  sym c.are_names.ensures ∙ c.if-not-are_names.false,
  eq-eqb _ _ c.if-t-e-ne0.false,
  sym c.are_present.ensures ∙ c.if-not-are_present.true,
)

pub returns : goal.returns
unfolding new_edge
returns c = simp (
  (seen_good c.args.t.now c.is_good.ensures c.if-not-is_good.false).0,
  sym c.are_names.ensures ∙ c.if-not-are_names.false,
  eq-eqb _ _ c.if-t-e-ne0.false,
  sym c.are_present.ensures ∙ c.if-not-are_present.false,
)
