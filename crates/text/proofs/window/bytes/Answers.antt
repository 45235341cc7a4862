-- `window::bytes` meets its contract. The invariant: the first i bytes are written.
use Rattle.text.specs.laws.Writing.{copying_none, copying_more}
use Rattle.text.proofs.window.bytes.Goals as goal

pub loop-i-init : goal.loop-i-init
loop-i-init c = copying_none c.args.from c.args.at c.args.s.now c.args.out.now

pub loop-i-preserved : goal.loop-i-preserved
loop-i-preserved c = copying_more c.loop-i.invariant c.loop-i-test.true c.store.ensures
