-- Why reading the bytes of some edits gives the edits back.
--     mark_read, record_read    the first record that is read is the one that was written
--     read_all, job_read         the reading of a job gives its edits, all bytes taken
--     whole, complement_back    a word from its two bytes; two's complement and back
use Rattle.std.specs.Prelude.{ℕ, ◌+◌, ◌-◌, ◌*◌, ◌/◌, ◌%◌, ◌≤◌, ◌≡◌, refl, ℤ, pos, negsuc, length, eqb, Some}
use Rattle.std.proofs.Common.{arith, sym, ◌∙◌, ap, length-append, lt-ltb, le-ltb, ne_eqb, eqb-true}
use mathlib.Core.List.{List, [], ◌∷◌, ◌++◌, flat_map}
use Rattle.std.proofs.Math.Seq.{drop-append_seam}
use Rattle.orbits.proofs.laws.Truth.{truth, holds, fails}
use Rattle.edits.specs.declared.edit.Edit.{Edit}
use Rattle.edits.specs.declared.edit.Edit.TheVariants.{AddVertex, RemoveVertex, InsertEdge, DeleteEdge, TurnEdge}
use Rattle.records.specs.declared.records.Mark.{Mark}
use Rattle.records.specs.declared.records.Mark.TheVariants.{AV, RV, IE, IL, DE, TW}
use Rattle.records.specs.declared.records.Stop.TheVariants.{End}
use Rattle.records.specs.Records.{plain_length, word, signed_word, mark_of, size_of, edit_of, found, known_record, first_record}
use Rattle.records.specs.Reading.{Reading, after, reading}
use Rattle.records.specs.laws.Reading.{first_nothing, reading_stopped, reading_record}
use Rattle.records_write.specs.Encoding.{complement, record_by, edit_for, record_of, job_of, SignedWord, Sixteen, AllSixteen, none, one_more}

-- a word's two bytes give it back
whole : (w : ℕ) → w / 256 * 256 + w % 256 ≡ w
whole w = omega arith

-- two's complement and back
complement_back : (k : ℤ) → SignedWord k → signed_word (complement k) ≡ k
complement_back (pos n) h = rw (lt-ltb n 32768 h)
complement_back (negsuc n) h =
    let back : 65535 - (65535 - n) ≡ n = omega arith in
    rw (le-ltb (65535 - n) 32768 (omega arith), back)

-- the first record of some bytes, where its mark is known and it is whole
known : (m : Mark) (s : List ℕ) (E : Edit) → 2 ≤ length s → mark_of (word s 0) ≡ Some m → size_of m ≤ length s → edit_of m s ≡ E
    → first_record s ≡ found E (size_of m)
unfolding first_record known_record
known m s E h e l f =
    rw (ne_eqb (length s) 0 (omega arith), ne_eqb (length s) 1 (omega arith), e, le-ltb (length s) (size_of m) l, f)

-- the edit that the words of a record say
module _ (name c₁ c₂ : ℕ) (k : ℤ) (n : ℕ) (h : SignedWord k) (rest : List ℕ) where
  pub mark_read : (m : Mark) → first_record (record_by m name c₁ c₂ k n ++ rest) ≡ found (edit_for m name c₁ c₂ k n) (length (record_by m name c₁ c₂ k n))
  mark_read AV = known AV _ _ (omega arith) refl (omega arith) (ap AddVertex (whole name))
  mark_read RV = known RV _ _ (omega arith) refl (omega arith) (ap RemoveVertex (whole name))
  mark_read IE = known IE _ _ (omega arith) refl (omega arith) (rw (whole name, whole c₁, whole c₂, whole (complement k), complement_back k h))
  mark_read IL = known IL _ _ (omega arith) refl (omega arith) (rw (whole name, whole c₁, whole c₂, whole (complement k), complement_back k h, whole n))
  mark_read DE = known DE _ _ (omega arith) refl (omega arith) (ap DeleteEdge (whole name))
  mark_read TW = known TW _ _ (omega arith) refl (omega arith) (rw (whole name, whole (complement k), complement_back k h))

pub record_read : (E : Edit) → Sixteen E → (rest : List ℕ) → first_record (record_of E ++ rest) ≡ found E (length (record_of E))
record_read (AddVertex v) h rest = mark_read v 0 0 (pos 0) 0 (omega arith) rest AV
record_read (RemoveVertex v) h rest = mark_read v 0 0 (pos 0) 0 (omega arith) rest RV
record_read (InsertEdge e c₁ c₂ k n) h rest = elim (truth (eqb n plain_length)) [
  | holds q ↦ let plain : n ≡ plain_length = eqb-true n plain_length q in rw q (mark_read e c₁ c₂ k n h.3 rest IE ∙ rw plain)
  | fails q ↦ rw q (mark_read e c₁ c₂ k n h.3 rest IL)
]
record_read (DeleteEdge e) h rest = mark_read e 0 0 (pos 0) 0 (omega arith) rest DE
record_read (TurnEdge e a) h rest = mark_read e 0 0 a 0 h.1 rest TW

-- what the reading of whole records gives
abbrev pub read_all : List Edit → Reading
read_all Es = record { edits = Es; taken = length (job_of Es); stop = End }

pub job_read : (Es : List Edit) → AllSixteen Es → reading (job_of Es) ≡ read_all Es
unfolding flat_map
job_read [] none = reading_stopped [] End (sym (first_nothing [] refl))
job_read (E ∷ Es) (one_more h k) =
    reading_record (record_of E ++ job_of Es) E (length (record_of E)) (record_read E h (job_of Es))
    ∙ ap (λ l. after E (length (record_of E)) (reading l)) (drop-append_seam (record_of E) (job_of Es))
    ∙ ap (after E (length (record_of E))) (job_read Es k)
    ∙ ap (λ n. record { edits = E ∷ Es; taken = n; stop = End }) (sym (length-append (record_of E) (job_of Es)))
