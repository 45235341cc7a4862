-- What an accepted insertion or deletion does to the rotation system: the laws of Inserted, Deleted and RoundTrip, where the verdict passes.
--     insert_without               an inserted edge taken out of the rotation leaves the old one
--     insert_sits, insert_order    where its darts stand; their order where the corners are one
--     insert_delete                deleting what was inserted gives the first table back
--     delete_without               a deletion leaves the old rotation without the edge
--     written_length               what an accepted edit does to the lengths
use Rattle.std.specs.Prelude.{ℕ, ◌+◌, ◌*◌, ◌≤◌, ◌≡◌, List, ◌≢◌, ℤ, Ok}
use Rattle.table.specs.Layout.{nothing, isolated, length_word, edge_word_most}
use Rattle.table.specs.laws.Writes.{upd, length_edge, length_vertex}
use Rattle.table.specs.Rotation.{rotation, live?, next_dart}
use Rattle.surgery.specs.Without.{Without}
use Rattle.surgery.specs.Sits.{Inserted}
use Rattle.edits.specs.Turns.{turned_word}
use Rattle.edits.specs.Verdicts.{verdict}
use Rattle.edits.specs.Edits.{written, length_after}
use Rattle.edits.proofs.laws.Turns.{inserted_word}
use Rattle.edits.proofs.laws.Verdicts.{MayInsert, may_add, may_remove, may_insert, may_delete, may_turn}
use Rattle.edits.proofs.laws.Edge.{Corner}
use Rattle.edits.proofs.laws.WrittenGood.{present_corner}
use Rattle.edits.proofs.laws.Inserted.{inserted_length, inserted_without, inserted_sits, inserted_order}
use Rattle.edits.proofs.laws.Deleted.{deleted_length, deleted_without}
use Rattle.edits.proofs.laws.RoundTrip.{deleted_inserted}
use Rattle.edits.specs.declared.edit.Edit.TheVariants.{AddVertex, RemoveVertex, InsertEdge, DeleteEdge, TurnEdge}
use Rattle.edits.specs.declared.edit.Edit.{Edit}

module _ (t : List ℕ) (e c₁ c₂ : ℕ) (k : ℤ) (n : ℕ) (p : verdict t (InsertEdge e c₁ c₂ k n) ≡ Ok tt) where
  m : MayInsert t e c₁ c₂ k n
  m = may_insert t e c₁ c₂ k n p

  word : (turned_word 100 k ≢ 0) × (turned_word 100 k ≤ edge_word_most)
  word = inserted_word k m.few

  first : Corner t (live? t) c₁
  first = present_corner t c₁ m.first_there

  second : Corner t (live? t) c₂
  second = present_corner t c₂ m.second_there

  pub insert_without : Without (rotation (written t (InsertEdge e c₁ c₂ k n))) e (rotation t)
  insert_without = inserted_without t m.good e c₁ c₂ (turned_word 100 k) n m.low m.free word.0 word.1 m.long first second

  pub insert_sits : Inserted (rotation (written t (InsertEdge e c₁ c₂ k n))) e (rotation t) c₁ c₂
  insert_sits = inserted_sits t m.good e c₁ c₂ (turned_word 100 k) n m.low m.free word.0 word.1 m.long first second

  pub insert_order : c₁ ≡ c₂ → next_dart (written t (InsertEdge e c₁ c₂ k n)) (2 * e) ≡ 2 * e + 1
  insert_order = inserted_order t m.good e c₁ c₂ (turned_word 100 k) n m.low m.free word.0 word.1 m.long first second

  pub insert_delete : written (written t (InsertEdge e c₁ c₂ k n)) (DeleteEdge e) ≡ t
  insert_delete = deleted_inserted t m.good e c₁ c₂ (turned_word 100 k) n m.low m.free word.0 word.1 m.long first second

-- what an accepted edit does to the lengths
pub written_length : (t : List ℕ) (E : Edit) → verdict t E ≡ Ok tt → (i : ℕ) → length_word (written t E) i ≡ length_after E i (length_word t i)
unfolding upd
written_length t (AddVertex v) p i = length_vertex t v isolated i (may_add t v p).low
written_length t (RemoveVertex v) p i = length_vertex t v nothing i (may_remove t v p).low
written_length t (InsertEdge e c₁ c₂ k n) p i =
    let m = may_insert t e c₁ c₂ k n p in
    let w = inserted_word k m.few in
    inserted_length t m.good e c₁ c₂ (turned_word 100 k) n m.low m.free w.0 w.1 m.long (present_corner t c₁ m.first_there) (present_corner t c₂ m.second_there) i
written_length t (DeleteEdge e) p i = let m = may_delete t e p in deleted_length t m.good e m.low m.there i
written_length t (TurnEdge e a) p i = length_edge t e _ i (may_turn t e a p).low

pub delete_without : (t : List ℕ) (e : ℕ) → verdict t (DeleteEdge e) ≡ Ok tt → Without (rotation t) e (rotation (written t (DeleteEdge e)))
delete_without t e p = let m = may_delete t e p in deleted_without t m.good e m.low m.there
