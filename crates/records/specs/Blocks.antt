-- The job program reads its input in blocks: what some bytes print, which of them are left for the next block, and what becomes of a block.
use Rattle.std.specs.Prelude.{ℕ, ◌+◌, cond, List, [], ◌++◌, length, drop}
use Rattle.records.specs.Reading.{Reading, reading, reads_on}
use Rattle.records.specs.Lines.{stop_line, lines}
use Rattle.records.specs.declared.run.Ran.{Ran}
use Rattle.records.specs.declared.block.Block.{Block}

-- the "no" lines of a reading from record n on, over table t
abbrev pub printed_by : List ℕ → ℕ → Reading → List ℕ
printed_by t n r = lines t n r.edits ++ stop_line (n + length r.edits) r.stop

unfoldable pub printed : List ℕ → ℕ → List ℕ → List ℕ
printed t n s = printed_by t n (reading s)

-- the bytes that are read again, before those that come: none after a bad mark
unfoldable pub left : List ℕ → List ℕ
left s = cond (reads_on (reading s).stop) (drop (reading s).taken s) []

-- what becomes of some bytes, the first of which is record n: the bytes of whole records, the next record's number, the bytes of the lines, and why no
-- whole record follows
abbrev pub ran_of : List ℕ → ℕ → List ℕ → Ran
ran_of t n s =
    let r = reading s in
    record { taken = r.taken; next = n + length r.edits; written = length (lines t n r.edits); stop = r.stop }

-- the same of a block: of its bytes, how many are left
abbrev pub block_of : List ℕ → ℕ → List ℕ → Block
block_of t n s =
    let r = reading s in
    record { left = length (left s); next = n + length r.edits; written = length (lines t n r.edits); stop = r.stop }
