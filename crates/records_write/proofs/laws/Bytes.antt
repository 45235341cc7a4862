-- The bytes of a record are bytes: 16-bit arguments have high and low ones.
--     job_bytes                        the bytes of a job are bytes
--     record_bytes, insertion_bytes    those of a record; of an insertion
--     word_bytes, signed_bytes         those of a 16-bit word; of a signed one
use Rattle.std.specs.Prelude.{ℕ, zero, suc, ◌/◌, ◌%◌, ◌<◌, eqb, ℤ, pos, negsuc, get_or}
use Rattle.std.proofs.Common.{arith}
use mathlib.Core.List.{List, [], ◌∷◌, ◌++◌, flat_map}
use Rattle.orbits.proofs.laws.Truth.{truth, holds, fails}
use Rattle.records.specs.Records.{plain_length}
use Rattle.edits.specs.declared.edit.Edit.{Edit}
use Rattle.edits.specs.declared.edit.Edit.TheVariants.{AddVertex, RemoveVertex, InsertEdge, DeleteEdge, TurnEdge}
use Rattle.records_write.specs.Encoding.{bytes_of, complement, insertion_words, record_of, job_of, Word, SignedWord, Sixteen, AllSixteen, none, one_more, Bytes}

bytes_none : Bytes []
bytes_none = record { each = λ i. omega arith }

bytes_more : {b : ℕ} {l : List ℕ} → b < 256 → Bytes l → Bytes (b ∷ l)
bytes_more {b} {l} h k = record { each = at }
  where
    at : (i : ℕ) → get_or (b ∷ l) i 0 < 256
    at zero = h
    at (suc i) = k.each i

bytes_append : (a : List ℕ) {b : List ℕ} → Bytes a → Bytes b → Bytes (a ++ b)
bytes_append [] h k = k
bytes_append (x ∷ a) h k = bytes_more (h.each 0) (bytes_append a (record { each = λ i. h.each (suc i) }) k)

word_bytes : (w : ℕ) → Word w → Bytes (bytes_of w)
word_bytes w h =
    let high : w / 256 < 256 = omega arith in
    let low : w % 256 < 256 = omega arith in
    bytes_more high (bytes_more low bytes_none)

signed_bytes : (k : ℤ) → SignedWord k → Bytes (bytes_of (complement k))
signed_bytes (pos n) h = word_bytes n (omega arith)
signed_bytes (negsuc n) h = word_bytes (complement (negsuc n)) (omega arith)

-- a mark, then what follows it
marked : (a b : ℕ) {l : List ℕ} → a < 256 → b < 256 → Bytes l → Bytes (a ∷ b ∷ l)
marked a b h k m = bytes_more h (bytes_more k m)

insertion_bytes : (e c₁ c₂ : ℕ) (k : ℤ) → Word e → Word c₁ → Word c₂ → SignedWord k → Bytes (insertion_words e c₁ c₂ k)
insertion_bytes e c₁ c₂ k f g h i =
    bytes_append (bytes_of e) (word_bytes e f)
    (bytes_append (bytes_of c₁) (word_bytes c₁ g) (bytes_append (bytes_of c₂) (word_bytes c₂ h) (signed_bytes k i)))

record_bytes : (E : Edit) → Sixteen E → Bytes (record_of E)
record_bytes (AddVertex v) h = marked 65 86 (omega arith) (omega arith) (word_bytes v h)
record_bytes (RemoveVertex v) h = marked 82 86 (omega arith) (omega arith) (word_bytes v h)
record_bytes (InsertEdge e c₁ c₂ k n) h =
    let words = insertion_bytes e c₁ c₂ k h.0 h.1 h.2 h.3 in
    elim (truth (eqb n plain_length)) [
      | holds q ↦ rw q (marked 73 69 (omega arith) (omega arith) words)
      | fails q ↦ rw q (marked 73 76 (omega arith) (omega arith) (bytes_append (insertion_words e c₁ c₂ k) words (word_bytes n h.4)))
    ]
record_bytes (DeleteEdge e) h = marked 68 69 (omega arith) (omega arith) (word_bytes e h)
record_bytes (TurnEdge e a) h = marked 84 87 (omega arith) (omega arith) (bytes_append (bytes_of e) (word_bytes e h.0) (signed_bytes a h.1))

pub job_bytes : (Es : List Edit) → AllSixteen Es → Bytes (job_of Es)
unfolding flat_map
job_bytes [] none = bytes_none
job_bytes (E ∷ Es) (one_more h k) = bytes_append (record_of E) (record_bytes E h) (job_bytes Es k)
