-- `step::write_letters` meets its contract. The invariant: the letters of the first j crossings are written.
use Rattle.text.specs.laws.Writing.{Copying}
use Rattle.weave.specs.Letters.{letters_on}
use Rattle.report_lines.proofs.step.write_letters.Given as goal

abbrev pub invariant-loop-j : goal.invariant-loop-j
invariant-loop-j l = Copying l.from l.at (letters_on l.w l.kind) l.j l.initial.out l.out
