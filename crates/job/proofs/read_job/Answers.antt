-- `read_job` meets its contract. The invariant: what came is read, and the bytes of a cut record wait
-- at the front of the buffer. The measure is the bytes that may still come, and one more turn for the read that gives none.
use Rattle.job.specs.laws.Progress.{going_none, going_ready, going_more}
use Rattle.job.specs.declared.State.TheVariants.{More}
use borrow.Author.Rules.{rules}
use mathlib.Core.Path.{◌≡◌, refl}
use Rattle.job.proofs.read_job.Goals as goal

pub loop-buf-init : goal.loop-buf-init
loop-buf-init g c = going_none c.requires refl

pub read_block-p-requires : goal.read_block-p-requires
read_block-p-requires g c = going_ready c.loop-buf.invariant

pub loop-buf-preserved : goal.loop-buf-preserved
loop-buf-preserved g c = let more : c.loop-buf.p.state ≡ More = search rules in
    going_more c.loop-buf.invariant more c.if-p-lt-MOST.true c.read_block-p.ensures c.read_block-p.auto.t c.read_block-p.auto.buf
