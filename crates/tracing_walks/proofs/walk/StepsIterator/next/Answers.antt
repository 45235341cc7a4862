-- `next` of `Steps` gives the first of the steps to come, and leaves those after it.
use Rattle.std.proofs.Common.{arith, length, ap}
use Rattle.tracing_walks.specs.laws.Onward.{OnWalk, on_walk_stands, on_walk_more, on_way_some, to_come_first, to_come_more, to_come_none}
use Rattle.tracing_walks.proofs.walk.StepsIterator.next.Goals as goal
use Rattle.tracing_walks.proofs.walk.StepsIterator.next.Goals.{In-Some, in-None, in-Some+else-at-self}

on_walk : (c : In-Some) → OnWalk c.args.self.now.table.now c.args.self.now.first c.in-Some.before
on_walk c = c.args.self.now.on_way c.in-Some.before c.in-Some.is

pub step-at-requires : goal.step-at-requires
step-at-requires c = on_walk_stands (on_walk (goal.at.step-at-requires c).In-Some)

pub returns-then-at-self-clause-steps : goal.returns-then-at-self-clause-steps
returns-then-at-self-clause-steps c =
    let none = to_come_none (on_walk (goal.at.returns-then-at-self-clause-steps c).In-Some) c.step-at.ensures _ c.in-Some.is c.if-at-self.true in
    (none, none)

pub invariant_of-self : goal.invariant_of-self
invariant_of-self c =
    let old = c.args.self.now in
    record {
      begin = old.begin;
      on_way = on_way_some _ _ _ (elim c.match-self.branch [
        | in-None w ↦ rw w.at-is old.begin
        | in-Some+else-at-self w ↦ rw w.at-is (on_walk_more (old.on_way _ w.in-Some.is) w.step-at.ensures w.if-at-self.false)
      ]);
    }

pub returns-clause-steps : goal.returns-clause-steps
returns-clause-steps c = elim c.match-self.branch [
  | in-None w ↦ rw w.at-is (to_come_first _ _ _ w.in-None.is)
  | in-Some+else-at-self w ↦ rw w.at-is (to_come_more (c.args.self.now.on_way _ w.in-Some.is) w.step-at.ensures _ w.in-Some.is w.if-at-self.false)
]

pub returns-clause-goes : goal.returns-clause-goes
returns-clause-goes c = let fewer = ap length (returns-clause-steps c) in record { on = λ _. (tt, tt, omega arith); keeps = tt; rests = λ _. tt }
