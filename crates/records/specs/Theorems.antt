-- The theorems of this crate, document 01, "The job program". Each is proved by the law of its name.
use Rattle.std.specs.Prelude.{ℕ, ◌+◌, List, ◌++◌, ◌≡◌, true, false, length}
use Rattle.runs.specs.Run.{run}
use Rattle.records.specs.Reading.{reading, reads_on}
use Rattle.records.specs.Lines.{lines}
use Rattle.records.specs.Blocks.{left, printed}
use Rattle.records.specs.laws.Blocks as blocks

-- standard input comes in blocks: the bytes of a block that are left over are read again, before those that come
pub lines_blocks : (t : List ℕ) (n : ℕ) (a b : List ℕ) (h : reads_on (reading a).stop ≡ true)
    → lines t n (reading (a ++ b)).edits ≡ lines t n (reading a).edits ++ lines (run t (reading a).edits) (n + length (reading a).edits) (reading (left a ++ b)).edits
lines_blocks = blocks.lines_blocks

pub run_blocks : (t : List ℕ) (n : ℕ) (a b : List ℕ) (h : reads_on (reading a).stop ≡ true)
    → run t (reading (a ++ b)).edits ≡ run (run t (reading a).edits) (reading (left a ++ b)).edits
run_blocks = blocks.run_blocks

-- after a bad mark nothing is read
pub printed_bad : (t : List ℕ) (n : ℕ) (a b : List ℕ) (h : reads_on (reading a).stop ≡ false) → printed t n (a ++ b) ≡ printed t n a
printed_bad = blocks.printed_bad

pub run_bad : (t : List ℕ) (n : ℕ) (a b : List ℕ) (h : reads_on (reading a).stop ≡ false) → run t (reading (a ++ b)).edits ≡ run t (reading a).edits
run_bad = blocks.run_bad
