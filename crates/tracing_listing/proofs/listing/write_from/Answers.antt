-- `listing::write_from` meets its contract: no words where no walk starts, else the number of its steps and the steps.
use Rattle.std.proofs.Common.{◌≡◌, ◌∙◌, ap, length, length-set, arith}
use lib.Seq.{length-sets}
use Rattle.tracing_walks.specs.laws.Size.{looked_low, looked_stands, looked_steps}
use Rattle.tracing_listing.specs.laws.Writing.{entered_none, entered_walk, walk_room}
use Rattle.tracing_listing.proofs.listing.write_from.Goals as goal

pub returns-in_default : goal.returns-in_default
returns-in_default c = entered_none _ _ c.look.ensures c.in_default.not-Some

pub overflow_cast-out : goal.overflow_cast-out
overflow_cast-out c = let low = looked_low c.in-Some.ensures in omega arith

pub bounds-out-at : goal.bounds-out-at
bounds-out-at c = let room = walk_room c.requires c.in-Some.ensures in omega arith

pub write_walk-requires : goal.write_walk-requires
write_walk-requires c =
    let room = walk_room c.requires c.in-Some.ensures in
    (looked_stands c.in-Some.ensures, rw (length-set, ← looked_steps c.in-Some.ensures) room)

pub overflow_add-result-2 : goal.overflow_add-result-2
overflow_add-result-2 c =
    let room = walk_room c.requires c.in-Some.ensures in
    let size : length c.write_walk.new.out ≡ length c.args.out.now = ap length c.write_walk.ensures ∙ simp (length-sets, length-set) in
    omega arith

pub returns : goal.returns
returns c = entered_walk c.requires c.in-Some.ensures c.write_walk.ensures
