-- What the job program does, document 01, "The job program". What a read gives is not known to a proof, so the statements are about some bytes.
--     output                         all that is printed on some bytes
--     going, fine, state_after       where the reading stands
--     after_block, failed_at, Turn    what one read and the records that it makes whole change
--     Finished                       why a reading that went well is over
--     Read, Ended                    what the reading leaves;  what the program leaves
use Rattle.std.specs.Prelude.{ℕ, zero, suc, ◌+◌, ◌≤◌, ◌^◌, ◌≡◌, cond, Bool, true, false, List, ◌++◌, length, take}
use Rattle.report_lines.specs.Lines.{report}
use Rattle.records.specs.declared.records.Stop.{Stop}
use Rattle.runs.specs.Run.{run}
use Rattle.records.specs.Reading.{reading, reads_on}
use Rattle.records.specs.Lines.{lines}
use Rattle.records.specs.Blocks.{printed, left}
use Rattle.job.specs.declared.State.{State}
use Rattle.job.specs.declared.State.TheVariants.{More, Over, Failed}
use Rattle.job.specs.declared.Progress.{Progress}
use Rattle.job.specs.declared.Job.{Job}

-- the "no" lines, that of the refusal which ended the reading among them, "Then: .." the report
abbrev pub output : List ℕ → List ℕ → List ℕ
output t s = printed t 1 s ++ report (run t (reading s).edits)

-- nothing says yet that no more is to be read
abbrev pub going : State → Bool
going More = true
going Over = false
going Failed = false

-- nothing failed
abbrev pub fine : State → Bool
fine More = true
fine Over = true
fine Failed = false

-- where the reading stands after a read that gave so many bytes: one that gives none is the end of the input, "10 .. end the reading"; a write that failed
-- ends it too
abbrev pub state_after : Bool → ℕ → Stop → State
state_after false came stop = Failed
state_after true zero stop = Over
state_after true (suc came) stop = cond (reads_on stop) More Over

-- how far the reading is after the bytes s, the last `came` of which are new and the others were left
abbrev pub after_block : List ℕ → Progress → ℕ → List ℕ → Bool → Progress
after_block t p came s f = record {
  state = state_after f came (reading s).stop;
  left = length (left s);
  next = p.next + length (reading s).edits;
  stop = (reading s).stop;
  came = came;
  read = p.read + came;
  printed = p.printed + length (lines t p.next (reading s).edits);
}

-- where a read failed: nothing more is read, and nothing else has changed
abbrev pub failed_at : Progress → Progress
failed_at p = record { state = Failed; left = p.left; next = p.next; stop = p.stop; came = p.came; read = p.read; printed = p.printed }

-- one read: bytes came, or it failed. The bytes that were left stand before those that came.
pub data Turn (t₀ buf₀ : List ℕ) (p : Progress) (t buf : List ℕ) (r : Progress) : Type 0 where
  came : (new : List ℕ) → length new ≤ 4096
      → r ≡ after_block t₀ p (length new) (take p.left buf₀ ++ new) (fine r.state)
      → t ≡ run t₀ (reading (take p.left buf₀ ++ new)).edits
      → take r.left buf ≡ left (take p.left buf₀ ++ new)
      → Turn t₀ buf₀ p t buf r
  failed : r ≡ failed_at p → t ≡ t₀ → take p.left buf ≡ take p.left buf₀ → Turn t₀ buf₀ p t buf r

-- why a reading that went well is over: the last read gave nothing, which is the end of the input; or a record stopped it, "10 .. end the reading"; or
-- 2 ^ 60 bytes have come
pub data Finished (came : ℕ) (stop : Stop) (read : ℕ) : Type 0 where
  nothing_came : came ≡ 0 → Finished came stop read
  stopped : reads_on stop ≡ false → Finished came stop read
  so_many : 2 ^ 60 ≤ read → Finished came stop read

-- all that came has been read: there are so many bytes, and what their reading gives is what the program has. "Records count from 1."
pub record Read (t₀ t : List ℕ) (p : Progress) : Type 0 where
  pub input : List ℕ
  pub all : p.read ≡ length input
  pub table : t ≡ run t₀ (reading input).edits
  pub next : p.next ≡ 1 + length (reading input).edits
  pub stop : p.stop ≡ (reading input).stop
  pub printed : p.printed ≡ length (lines t₀ 1 (reading input).edits)
  pub over : fine p.state ≡ true → Finished p.came (reading input).stop p.read
  pub low : p.read ≤ 2 ^ 60 + 4096

-- the program's end: the table is that of all that came; never more bytes were handed over than the output has, and, unless something failed, so many, and
-- the reading was over
pub record Ended (t₀ t : List ℕ) (r : Job) : Type 0 where
  pub input : List ℕ
  pub all : r.read ≡ length input
  pub table : t ≡ run t₀ (reading input).edits
  pub most : r.printed ≤ length (output t₀ input)
  pub whole : r.fine ≡ true → r.printed ≡ length (output t₀ input)
  pub over : r.fine ≡ true → Finished r.came (reading input).stop r.read
