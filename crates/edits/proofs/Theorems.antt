-- The theorems of this crate, document 01, "Edits", and document 02, requests a and g. Each is proved by the law of its name.
--     written_good                                 an accepted edit leaves a good table
--     written_changes, rule_changes                the face count changes as the edit's places call for; as its rule says
--     reply_read                                   a host reads the face count and the rule in the answer
--     edited_declines                              a declined edit leaves every word
--     insert_without, insert_sits, insert_order    where the two darts of a new edge go
--     delete_without, insert_delete                a deletion leaves the rotation without the edge; it undoes an insertion
--     written_length                               which edits alter a length
use Rattle.std.specs.Prelude.{ℕ, ◌+◌, ◌*◌, ◌≡◌, List, ℤ, pos, Ok, Err, Option, None, Some}
use Rattle.table.specs.Layout.{length_word}
use Rattle.table.specs.Good.{Good}
use Rattle.edits.specs.Edits.{written, edited, answer, length_after}
use Rattle.edits.specs.Rules.{rule_of, rule_change, reply, reply_code, faces_read, rule_read, number_met}
use Rattle.edits.specs.declared.rule.Rule.{Rule}
use Rattle.edits.specs.declared.edit.Edit.{Edit}
use Rattle.edits.specs.Verdicts.{verdict}
use Rattle.table.specs.Rotation.{rotation, next_dart}
use Rattle.tracing.specs.Listing.{face_count}
use Rattle.surgery.specs.Change.{Changes}
use Rattle.edits.specs.Changes.{change}
use Rattle.table.specs.declared.answer.Refusal.{Refusal}
use Rattle.surgery.specs.Without.{Without}
use Rattle.edits.specs.declared.edit.Edit.TheVariants.{InsertEdge, DeleteEdge}
use Rattle.surgery.specs.Sits.{Inserted}
use Rattle.edits.proofs.laws.WrittenGood as writtenGood
use Rattle.edits.proofs.laws.Changes as changes
use Rattle.edits.proofs.laws.Edits as edits
use Rattle.edits.proofs.laws.Rules as rules
use Rattle.edits.proofs.laws.Accepted as accepted

-- the table that an accepted edit writes is good
pub written_good : (t : List ℕ) → (E : Edit) → verdict t E ≡ Ok tt → Good (written t E)
written_good = writtenGood.written_good

-- the face count changes as the edit's rule calls for, read on the table before it
pub written_changes : (t : List ℕ) → (E : Edit) → verdict t E ≡ Ok tt
    → Changes (change t E) (face_count (rotation t)) (face_count (rotation (written t E)))
written_changes = changes.written_changes

-- document 02, request a: the face count changes by -1, +1, 0, 0 for A, B1, B2, E
pub rule_changes : (t : List ℕ) (E : Edit) (r : Rule) → verdict t E ≡ Ok tt → rule_of t E ≡ Some r
    → Changes (rule_change r) (face_count (rotation t)) (face_count (rotation (written t E)))
rule_changes = rules.rule_changes

-- a host reads the face count and the rule in the number of an accepted edit
pub reply_read : (t : List ℕ) (E : Edit) (n x : ℕ) → answer t E ≡ Ok n → reply_code (reply t E) ≡ pos x
    → (faces_read x ≡ n) × (rule_read x ≡ number_met (rule_of t E))
reply_read = rules.reply_read

-- a declined edit leaves every word
pub edited_declines : (t : List ℕ) (E : Edit) → (r : Refusal) → verdict t E ≡ Err r → edited t E ≡ t
edited_declines = edits.edited_declines

-- an inserted edge taken out of the rotation leaves the old one
pub insert_without : (t : List ℕ) (e c₁ c₂ : ℕ) (k : ℤ) (n : ℕ) (p : verdict t (InsertEdge e c₁ c₂ k n) ≡ Ok tt)
    → Without (rotation (written t (InsertEdge e c₁ c₂ k n))) e (rotation t)
insert_without = accepted.insert_without

-- "each just before the dart that names the corner"
pub insert_sits : (t : List ℕ) (e c₁ c₂ : ℕ) (k : ℤ) (n : ℕ) (p : verdict t (InsertEdge e c₁ c₂ k n) ≡ Ok tt)
    → Inserted (rotation (written t (InsertEdge e c₁ c₂ k n))) e (rotation t) c₁ c₂
insert_sits = accepted.insert_sits

-- "With c1 = c2 the order is old, 2e, 2e+1, d"
pub insert_order : (t : List ℕ) (e c₁ c₂ : ℕ) (k : ℤ) (n : ℕ) (p : verdict t (InsertEdge e c₁ c₂ k n) ≡ Ok tt) → c₁ ≡ c₂
    → next_dart (written t (InsertEdge e c₁ c₂ k n)) (2 * e) ≡ 2 * e + 1
insert_order = accepted.insert_order

-- the rotation after a deletion is the old one without the edge
pub delete_without : (t : List ℕ) (e : ℕ) → verdict t (DeleteEdge e) ≡ Ok tt → Without (rotation t) e (rotation (written t (DeleteEdge e)))
delete_without = accepted.delete_without

-- deleting what was inserted gives the first table back, word for word
pub insert_delete : (t : List ℕ) (e c₁ c₂ : ℕ) (k : ℤ) (n : ℕ) (p : verdict t (InsertEdge e c₁ c₂ k n) ≡ Ok tt)
    → written (written t (InsertEdge e c₁ c₂ k n)) (DeleteEdge e) ≡ t
insert_delete = accepted.insert_delete

-- document 02, request g: "Insertion takes a length .. and deletion sets it to 0; no other edit alters one"
pub written_length : (t : List ℕ) (E : Edit) → verdict t E ≡ Ok tt → (i : ℕ) → length_word (written t E) i ≡ length_after E i (length_word t i)
written_length = accepted.written_length
