-- `block::run_block` meets its contract: the records are run, and what is left of the bytes is moved, unless a bad mark ended the reading.
use Rattle.records.specs.laws.Moving.{block_bad, taken_there, block_more}
use Rattle.records.proofs.block.run_block.Goals as goal

pub returns-then-not-reads_on : goal.returns-then-not-reads_on
returns-then-not-reads_on c = let b = block_bad c.args.t.now c.args.number c.args.buf.now c.args.n c.run_records-ran.ensures.0 c.reads_on.ensures c.if-not-reads_on.true in
    (b.0, c.run_records-ran.ensures.1, b.1, c.run_records-ran.ensures.2)

pub copy_within-requires-clause-start_le_end : goal.copy_within-requires-clause-start_le_end
copy_within-requires-clause-start_le_end c = taken_there _ _ _ _ c.run_records-ran.ensures.0 c.requires.0

pub overflow_sub-result : goal.overflow_sub-result
overflow_sub-result c = taken_there _ _ _ _ c.run_records-ran.ensures.0 c.requires.0

pub returns : goal.returns
returns c = let b = block_more _ _ _ _ c.run_records-ran.ensures.0 c.requires.0 c.reads_on.ensures c.if-not-reads_on.false c.copy_within.ensures.after in
    (b.0, c.run_records-ran.ensures.1, b.1, c.run_records-ran.ensures.2)
