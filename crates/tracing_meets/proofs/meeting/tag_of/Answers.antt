-- `meeting::tag_of` meets its contract. The tag of corner c.
use Rattle.tracing_meets.specs.laws.Read.{read_lone, read_dart}
use native.Mathlib.Omega.{arith}
use Rattle.tracing_meets.proofs.meeting.tag_of.Goals as goal

pub returns-then-c-ge-LONE : goal.returns-then-c-ge-LONE
returns-then-c-ge-LONE c = read_lone _ _ c.if-c-ge-LONE.true

pub bounds-tags-c : goal.bounds-tags-c
bounds-tags-c c = let low = c.requires.1 c.if-c-ge-LONE.false in omega arith

pub overflow_cast-result-3 : goal.overflow_cast-result-3
overflow_cast-result-3 c = let known = c.type_inv.tags c.args.c in omega arith

pub returns : goal.returns
returns c = read_dart _ _ c.if-c-ge-LONE.false
