-- `window::bytes` meets its contract. The invariant: the first i bytes are written.
use Rattle.text.specs.laws.Writing.{Copying}
use Rattle.text.proofs.window.bytes.Given as goal

abbrev pub invariant-loop-i : goal.invariant-loop-i
invariant-loop-i l = Copying l.from l.at l.s l.i l.initial.out l.out
