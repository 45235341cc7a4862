-- Edits as job records, document 01, "The job program": the bytes of a record and of a job, for whoever writes a job file. Crate `records` reads them.
--     record_by, edit_for              the bytes of a mark with its arguments; the edit that they say
--     record_of, job_of                 the bytes of an edit; of a list of edits
--     bytes_of, complement              the two bytes of a word; two's complement
--     insertion_words, insertion_mark  the words of an insertion; its mark, by its length
--     Word, SignedWord                 numbers that a 16-bit word holds
--     Sixteen, AllSixteen              edits whose arguments are 16-bit words
--     Bytes                            numbers that are bytes
use Rattle.std.specs.Prelude.{ℕ, ◌-◌, ◌/◌, ◌%◌, ◌<◌, cond, eqb, ℤ, pos, negsuc, get_or}
use mathlib.Core.List.{List, [], ◌∷◌, ◌++◌, flat_map}
use Rattle.records.specs.Records.{plain_length}
use Rattle.records.specs.declared.records.Mark.{Mark}
use Rattle.records.specs.declared.records.Mark.TheVariants.{AV, RV, IE, IL, DE, TW}
use Rattle.edits.specs.declared.edit.Edit.{Edit}
use Rattle.edits.specs.declared.edit.Edit.TheVariants.{AddVertex, RemoveVertex, InsertEdge, DeleteEdge, TurnEdge}

-- "16-bit words, high byte first"
abbrev pub bytes_of : ℕ → List ℕ
bytes_of w = w / 256 ∷ w % 256 ∷ []

-- "k and amount in two's complement"
abbrev pub complement : ℤ → ℕ
complement (pos n) = n
complement (negsuc n) = 65535 - n

-- the words of an insertion: "e c1 c2 k"
abbrev pub insertion_words : ℕ → ℕ → ℕ → ℤ → List ℕ
insertion_words e c₁ c₂ k = bytes_of e ++ (bytes_of c₁ ++ (bytes_of c₂ ++ bytes_of (complement k)))

-- "a two-byte mark, then 16-bit words": the letters' codes. "AV v; RV v; IE e c1 c2 k; DE e; TW e amount", and document 02, request g, "Record IL is IE with
-- one more word, the last, for the length". What a mark has no use for is not looked at.
abbrev pub record_by : Mark → ℕ → ℕ → ℕ → ℤ → ℕ → List ℕ
record_by AV name c₁ c₂ k n = 65 ∷ 86 ∷ bytes_of name
record_by RV name c₁ c₂ k n = 82 ∷ 86 ∷ bytes_of name
record_by IE name c₁ c₂ k n = 73 ∷ 69 ∷ insertion_words name c₁ c₂ k
record_by IL name c₁ c₂ k n = 73 ∷ 76 ∷ (insertion_words name c₁ c₂ k ++ bytes_of n)
record_by DE name c₁ c₂ k n = 68 ∷ 69 ∷ bytes_of name
record_by TW name c₁ c₂ k n = 84 ∷ 87 ∷ (bytes_of name ++ bytes_of (complement k))

-- the edit that such a record says; "a plain IE writes 16"
abbrev pub edit_for : Mark → ℕ → ℕ → ℕ → ℤ → ℕ → Edit
edit_for AV name c₁ c₂ k n = AddVertex name
edit_for RV name c₁ c₂ k n = RemoveVertex name
edit_for IE name c₁ c₂ k n = InsertEdge name c₁ c₂ k plain_length
edit_for IL name c₁ c₂ k n = InsertEdge name c₁ c₂ k n
edit_for DE name c₁ c₂ k n = DeleteEdge name
edit_for TW name c₁ c₂ k n = TurnEdge name k

-- an insertion of length 16 needs no IL
abbrev pub insertion_mark : ℕ → Mark
insertion_mark n = cond (eqb n plain_length) IE IL

abbrev pub record_of : Edit → List ℕ
record_of (AddVertex v) = record_by AV v 0 0 (pos 0) 0
record_of (RemoveVertex v) = record_by RV v 0 0 (pos 0) 0
record_of (InsertEdge e c₁ c₂ k n) = record_by (insertion_mark n) e c₁ c₂ k n
record_of (DeleteEdge e) = record_by DE e 0 0 (pos 0) 0
record_of (TurnEdge e a) = record_by TW e 0 0 a 0

-- a job is its records, one after the other
abbrev pub job_of : List Edit → List ℕ
job_of Es = flat_map record_of Es

-- a number that a 16-bit word holds, and one that it holds in two's complement
abbrev pub Word : ℕ → Type 0
Word n = n < 65536

abbrev pub SignedWord : ℤ → Type 0
SignedWord (pos n) = n < 32768
SignedWord (negsuc n) = n < 32768

-- "with any arguments": those that the calls and the records can have
abbrev pub Sixteen : Edit → Type 0
Sixteen (AddVertex v) = Word v
Sixteen (RemoveVertex v) = Word v
Sixteen (InsertEdge e c₁ c₂ k n) = Word e × Word c₁ × Word c₂ × SignedWord k × Word n
Sixteen (DeleteEdge e) = Word e
Sixteen (TurnEdge e a) = Word e × SignedWord a

-- a list of such edits
pub data AllSixteen : List Edit → Type 0 where
  none : AllSixteen []
  one_more : {E : Edit} {Es : List Edit} → Sixteen E → AllSixteen Es → AllSixteen (E ∷ Es)

-- a list of bytes
pub record Bytes (l : List ℕ) : Type 0 where
  pub each : (i : ℕ) → get_or l i 0 < 256
