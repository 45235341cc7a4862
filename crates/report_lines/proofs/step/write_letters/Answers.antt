-- `step::write_letters` meets its contract. The invariant: the letters of the first j crossings are written.
use Rattle.report_lines.specs.laws.Steps.{lettering_more, lettering_all}
use Rattle.text.specs.laws.Writing.{copying_none}
use Rattle.weave.specs.Letters.{letters_on}
use Rattle.report_lines.proofs.step.write_letters.Goals as goal

pub loop-j-init : goal.loop-j-init
loop-j-init c = copying_none c.args.from c.args.at (letters_on c.args.w c.args.kind) c.args.out.now

pub loop-j-preserved : goal.loop-j-preserved
loop-j-preserved c = lettering_more c.requires c.crossings-n.ensures c.loop-j.invariant c.loop-j-test.true c.letter.ensures c.byte.ensures

pub shape_of-out : goal.shape_of-out
shape_of-out c = c.loop-j.invariant.size

pub returns : goal.returns
returns c = lettering_all c.requires c.crossings-n.ensures c.loop-j.invariant c.loop-j-test.false
