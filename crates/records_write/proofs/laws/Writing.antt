-- The call that writes a record, as the code makes it.
--     record_done    the bytes are written
--     handed_call    turns that are handed on keep their value
use Rattle.table.specs.Answers.{Answer}
use Rattle.std.specs.Prelude.{ℕ, ◌≤◌, ◌≡◌, List, ℤ, length, Option, Ok}
use Rattle.std.specs.Int.{w16}
use Rattle.std.proofs.Common.{◌∙◌, ap, SFits, to_z, of_z, to_z-of_z, le-leb}
use Rattle.std.proofs.lemmas.List.Edits.{sets}
use Rattle.table.specs.laws.Output.{sets_front}
use Rattle.records.specs.declared.records.Mark.{Mark}
use Rattle.records_write.specs.Call.{record_answer, record_out, marked_answer, marked_out}

pub record_done : (bytes out : List ℕ) {n : ℕ} {out' : List ℕ} → n ≡ length bytes → length bytes ≤ length out → out' ≡ sets out 0 bytes
    → (Ok n ≡ record_answer bytes (length out)) × (out' ≡ record_out bytes out)
record_done bytes out e h w = rw (le-leb (length bytes) (length out) h) (ap Ok e, w ∙ sets_front bytes out h)

pub handed_call : (name c₁ c₂ : ℕ) (k : ℤ) (n : ℕ) (out : List ℕ) {a : Answer} {out' : List ℕ} → SFits w16 k → (m : Option Mark)
    → (a ≡ marked_answer m name c₁ c₂ (to_z w16 (of_z w16 k)) n (length out)) × (out' ≡ marked_out m name c₁ c₂ (to_z w16 (of_z w16 k)) n out)
    → (a ≡ marked_answer m name c₁ c₂ k n (length out)) × (out' ≡ marked_out m name c₁ c₂ k n out)
handed_call name c₁ c₂ k n out f m r = rw (to_z-of_z f) at r
