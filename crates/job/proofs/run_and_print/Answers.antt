-- `run_and_print` meets its contract: the block is ready to be run, and what it leaves is handed on.
use Rattle.job.specs.laws.Progress.{block_written, block_left, block_after}
use lib.Seq.{length-take-le}
use mathlib.Core.Path.{refl, sym}
use Rattle.job.proofs.run_and_print.Goals as goal

pub slice_bounds-out-end : goal.slice_bounds-out-end
slice_bounds-out-end g c = block_written _ _ _ _ _ c.requires.0 c.requires.1 c.requires.2 refl c.run_block-block.ensures

pub slice_bounds-print-end : goal.slice_bounds-print-end
slice_bounds-print-end g c = sym (length-take-le _ _ (block_written _ _ _ _ _ c.requires.0 c.requires.1 c.requires.2 refl c.run_block-block.ensures))

pub returns : goal.returns
returns g c = let after =
    block_after _ _ _ _ _ c.requires.0 c.requires.1 c.requires.2 refl c.run_block-block.ensures c.args.p
    c.args.came c.print-lines.result.fine refl c.state_after.ensures c.print-lines.ensures in
    let rest = block_left _ _ _ _ _ c.requires.0 c.requires.1 c.requires.2 refl c.run_block-block.ensures in
    (after, c.run_block-block.ensures.1, rest)
