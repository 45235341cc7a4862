-- All records of some bytes, document 01, "The job program": the edits, the bytes that they took, and why the reading ended.
use Rattle.std.specs.Prelude.{ℕ, zero, suc, ◌+◌, Bool, true, false, List, [], ◌∷◌, length, drop, Ok, Err}
use Rattle.edits.specs.declared.edit.Edit.{Edit}
use Rattle.records.specs.declared.records.Stop.{Stop}
use Rattle.records.specs.declared.records.Stop.TheVariants.{End, BadMark, CutRecord}
use Rattle.records.specs.Records.{Found, first_record}

-- `stop` is why it ended: with its bytes, or by a refusal, "10 and 11 .. end the reading"
pub record Reading : Type 0 where
  pub edits : List Edit
  pub taken : ℕ
  pub stop : Stop

-- no whole record
abbrev pub ended : Stop → Reading
ended x = record { edits = []; taken = 0; stop = x }

-- an edit of k bytes, then the rest
abbrev pub after : Edit → ℕ → Reading → Reading
after E k r = record { edits = E ∷ r.edits; taken = k + r.taken; stop = r.stop }

abbrev pub read_by : Found → (ℕ → Reading) → Reading
read_by (Err x) rest = ended x
read_by (Ok r) rest = after r.edit r.size (rest r.size)

-- at most n records
unfoldable pub read_up_to : ℕ → List ℕ → Reading
read_up_to zero s = ended End
read_up_to (suc n) s = read_by (first_record s) (λ k. read_up_to n (drop k s))

-- there are no more records than bytes
unfoldable pub reading : List ℕ → Reading
reading s = read_up_to (length s) s

-- whether bytes that come after them are read: a cut record may be whole with them, and a bad mark stays one
abbrev pub reads_on : Stop → Bool
reads_on End = true
reads_on BadMark = false
reads_on CutRecord = true
