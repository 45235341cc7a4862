-- The five edits, document 01, "Edits": the table that each leaves, and its answer. A declined edit leaves every word, and answers its number alone.
use Rattle.std.specs.Prelude.{ℕ, cond, List, eqb, Ok, Err}
use Rattle.table.specs.Layout.{nothing, isolated, edge_word}
use Rattle.table.specs.Rotation.{rotation}
use Rattle.table.specs.Writes.{set_vertex, set_edge}
use Rattle.tracing.specs.Listing.{face_count}
use Rattle.edits.specs.Turns.{turned_word}
use Rattle.edits.specs.Verdicts.{verdict, Verdict}
use Rattle.edits.specs.Edge.{inserted, deleted}
use Rattle.edits.specs.declared.edit.Edit.{Edit}
use Rattle.edits.specs.declared.edit.Edit.TheVariants.{AddVertex, RemoveVertex, InsertEdge, DeleteEdge, TurnEdge}
use Rattle.table.specs.Answers.{if_done, Answer}

-- the table that the edit writes where it goes through
abbrev pub written : List ℕ → Edit → List ℕ
written t (AddVertex v) = set_vertex t v isolated
written t (RemoveVertex v) = set_vertex t v nothing
written t (InsertEdge e c₁ c₂ k n) = inserted t e c₁ c₂ (turned_word 100 k) n
written t (DeleteEdge e) = deleted t e
written t (TurnEdge e a) = set_edge t e (turned_word (edge_word t e) a)

-- document 02, request g: "Insertion takes a length .. and deletion sets it to 0; no other edit alters one": the length of edge i after an accepted
-- edit, where it was l
abbrev pub length_after : Edit → ℕ → ℕ → ℕ
length_after (AddVertex v) i l = l
length_after (RemoveVertex v) i l = l
length_after (InsertEdge e c₁ c₂ k n) i l = cond (eqb i e) n l
length_after (DeleteEdge e) i l = cond (eqb i e) 0 l
length_after (TurnEdge e a) i l = l

-- "Each accepted edit answers the new face count."
abbrev answer_by : Verdict → List ℕ → Answer
answer_by (Ok tt) new = Ok (face_count (rotation new))
answer_by (Err r) new = Err r

unfoldable pub answer : List ℕ → Edit → Answer
answer t E = answer_by (verdict t E) (written t E)

-- "all lent slices and records keep their contents" where the edit is declined
unfoldable pub edited : List ℕ → Edit → List ℕ
edited t E = if_done (answer t E) (written t E) t
