-- The theorems of this crate. Each is proved by the law of its name.
use Rattle.std.specs.Prelude.{ℕ, ◌≡◌, List, ◌++◌, ℤ, length}
use Rattle.edits.specs.declared.edit.Edit.{Edit}
use Rattle.records.specs.declared.records.Mark.{Mark}
use Rattle.records.specs.declared.records.Stop.TheVariants.{End}
use Rattle.records.specs.Records.{found, first_record}
use Rattle.records.specs.Reading.{reading}
use Rattle.records_write.specs.Encoding.{record_by, edit_for, record_of, job_of, SignedWord, Sixteen, AllSixteen, Bytes}
use Rattle.records_write.proofs.laws.Bytes as bytes
use Rattle.records_write.proofs.laws.Encoding as encoding

-- the record of a mark is read back, whatever follows it, as the edit that it says
pub mark_read : (name c₁ c₂ : ℕ) (k : ℤ) (n : ℕ) → SignedWord k → (rest : List ℕ) (m : Mark)
    → first_record (record_by m name c₁ c₂ k n ++ rest) ≡ found (edit_for m name c₁ c₂ k n) (length (record_by m name c₁ c₂ k n))
mark_read = encoding.mark_read

-- and so is the record of an edit
pub record_read : (E : Edit) → Sixteen E → (rest : List ℕ) → first_record (record_of E ++ rest) ≡ found E (length (record_of E))
record_read = encoding.record_read

-- reading the bytes of a list of edits gives the edits back, all bytes taken, and nothing stops it
pub job_read : (Es : List Edit) → AllSixteen Es → reading (job_of Es) ≡ record { edits = Es; taken = length (job_of Es); stop = End }
job_read = encoding.job_read

-- and they are bytes
pub job_bytes : (Es : List Edit) → AllSixteen Es → Bytes (job_of Es)
job_bytes = bytes.job_bytes
