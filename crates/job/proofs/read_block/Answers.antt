-- `read_block` meets its contract: what came stands after the bytes that were left.
use Rattle.job.specs.laws.Progress.{turn_came}
use borrow.Rule.Slice.PartMut.{put_mid, take_put}
use lib.ListN.{length}
use native.Mathlib.Omega.{arith}
use borrow.Author.Rules.{rules}
use Prim.Native.Nat.{ℕ, ◌-◌, ◌≤◌}
use Rattle.job.proofs.read_block.Goals as goal

pub returns-in-Ok : goal.returns-in-Ok
returns-in-Ok g c =
    let within : c.in-Ok.came ≤ length c.get.new.bytes = search rules in
    let there = take_put {X = ℕ} c.args.p.left (length {A = ℕ} c.args.buf.now - c.args.p.left) c.args.buf.now c.get.new.bytes (omega arith) in
    turn_came (put_mid {X = ℕ} c.args.p.left (length {A = ℕ} c.args.buf.now - c.args.p.left) c.args.buf.now c.get.new.bytes)
    c.in-Ok.came (omega arith) (omega arith) there c.run_and_print.ensures
