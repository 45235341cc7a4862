-- `plain::alternate_in` meets its contract: each dart of the block is judged after those below it.
use native.Mathlib.Omega.{arith}
use Rattle.std.specs.Prelude.{ℕ, ◌≡◌, ◌*◌, ◌+◌}
use Rattle.tracing_walks.specs.laws.Size.{seen_range}
use Rattle.weave_plain.specs.laws.Plain.{judging_more, judging_no}
use Rattle.weave_plain.proofs.plain.alternate_in.Goals as goal

pub alternates_from-requires : goal.alternates_from-requires
alternates_from-requires c = seen_range c.loop-d.invariant.seen (omega arith)

pub returns-then-not-alternates_from : goal.returns-then-not-alternates_from
returns-then-not-alternates_from c = record {
  goes_on = λ e. absurd (let z : ◌≡◌ {A = ℕ} 0 1 = cc in omega arith);
  mixed = λ e. judging_no c.loop-d.invariant (omega arith) c.alternates_from.ensures c.if-not-alternates_from.true;
}

pub loop-d-preserved : goal.loop-d-preserved
loop-d-preserved c = judging_more c.loop-d.invariant (omega arith) c.alternates_from.ensures c.if-not-alternates_from.false

pub returns : goal.returns
returns c = record {
  goes_on = λ e. let end : c.loop-d.d ≡ 64 * c.args.b + 64 = omega arith in rw end at c.loop-d.invariant;
  mixed = λ e. absurd (let z : ◌≡◌ {A = ℕ} 0 1 = cc in omega arith);
}
