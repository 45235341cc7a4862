-- `step::around` meets its contract: the words of a live dart are darts, so twice one fits.
use Rattle.tracing_walks.specs.laws.Stands.{near, around_next_word, around_prev_word}
use native.Mathlib.Omega.{arith}
use Rattle.tracing_walks.proofs.step.around.Goals as goal

pub offset_bounds-t-d : goal.offset_bounds-t-d
offset_bounds-t-d c = let n = near c.requires in omega arith

pub bounds-t-d : goal.bounds-t-d
bounds-t-d c = let n = near c.requires in omega arith

pub overflow_add-prev : goal.overflow_add-prev
overflow_add-prev c = let n = near c.requires in omega arith

pub offset_bounds-t-d-2 : goal.offset_bounds-t-d-2
offset_bounds-t-d-2 c = let n = near c.requires in omega arith

pub bounds-t-d-2 : goal.bounds-t-d-2
bounds-t-d-2 c = let n = near c.requires in omega arith

pub overflow_mul-result : goal.overflow_mul-result
overflow_mul-result c = let n = near c.requires in omega arith

pub returns-then-k-eq0 : goal.returns-then-k-eq0
returns-then-k-eq0 c = around_next_word c.requires c.args.k c.if-k-eq0.true

pub overflow_mul-result-2 : goal.overflow_mul-result-2
overflow_mul-result-2 c = let n = near c.requires in omega arith

pub overflow_add-result : goal.overflow_add-result
overflow_add-result c = let n = near c.requires in omega arith

pub returns : goal.returns
returns c = around_prev_word c.requires c.args.k c.if-k-eq0.false
