-- `listing::write_lone` meets its contract: two words for an isolated vertex, none for another.
use Rattle.tracing_listing.specs.laws.Writing.{entered_blank, entered_lone, lone_room}
use lib.ListN.{length-set}
use native.Mathlib.Omega.{arith}
use Rattle.tracing_listing.proofs.listing.write_lone.Goals as goal

pub returns-then-t-v : goal.returns-then-t-v
returns-then-t-v c = entered_blank _ _ _ _ c.if-t-v.true

pub bounds-out-at : goal.bounds-out-at
bounds-out-at c = let room = lone_room c.requires c.if-t-v.false in omega arith

pub offset_bounds-out-at-2 : goal.offset_bounds-out-at-2
offset_bounds-out-at-2 c = let room = lone_room c.requires c.if-t-v.false in omega arith

pub bounds-out-at-2 : goal.bounds-out-at-2
bounds-out-at-2 c = let room = lone_room c.requires c.if-t-v.false in simp length-set (omega arith)

pub returns : goal.returns
returns c = entered_lone c.requires c.if-t-v.false
