-- A run of edits, document 01, "Runs of edits": any list of the five edits with any arguments, over one table.
--     run                                the table after the run
--     calls, called                      what the rules call for: of one edit; in the whole run
--     calls_by, number                   the same once the verdict is known; -1, 0 or +1
--     face_number                        the number of listed walks
--     tells, told, vertex_tells          what an answer says of the faces: of one edit; of the whole run; of an edit on a vertex
--     length_given, length_by, length_in  the length last given to edge e: in a run; by an edit; by an accepted one
use Rattle.table.specs.declared.answer.Refusal.{Refusal}
use Rattle.std.specs.Prelude.{ℕ, cond, List, [], ◌∷◌, eqb, ℤ, pos, negsuc, ◌+ℤ◌, Ok, Err, Result, Option, Some, None}
use Rattle.table.specs.Rotation.{rotation}
use Rattle.tracing.specs.Listing.{face_count}
use Rattle.surgery.specs.Change.{Change, less, as_many, more}
use Rattle.edits.specs.Edits.{edited}
use Rattle.edits.specs.Changes.{change}
use Rattle.edits.specs.Rules.{rule_change, reply}
use Rattle.edits.specs.declared.edit.Edit.{Edit}
use Rattle.edits.specs.declared.edit.Edit.TheVariants.{AddVertex, RemoveVertex, InsertEdge, DeleteEdge, TurnEdge}
use Rattle.edits.specs.declared.rule.Rule.{Rule}
use Rattle.edits.specs.declared.rule.Reply.{Reply}
use Rattle.edits.specs.Verdicts.{verdict, Verdict}

-- "each edit gets it as the last one left it": the table after the run
unfoldable pub run : List ℕ → List Edit → List ℕ
run t [] = t
run t (E ∷ Es) = run (edited t E) Es

-- -1, 0 or +1
abbrev pub number : Change → ℤ
number less = negsuc 0
number as_many = pos 0
number more = pos 1

-- "An accepted addition of a vertex counts +1, a removal -1, any other accepted edit the change given under "Edits", read on the
-- table just before that edit; a declined one counts 0."
abbrev pub calls_by : Verdict → Change → ℤ
calls_by (Ok tt) c = number c
calls_by (Err r) c = pos 0

unfoldable pub calls : List ℕ → Edit → ℤ
calls t E = calls_by (verdict t E) (change t E)

-- what the rules call for in the whole run
unfoldable pub called : List ℕ → List Edit → ℤ
called t [] = pos 0
called t (E ∷ Es) = calls t E +ℤ called (edited t E) Es

-- "Its start count is the number of listed walks before the run."
abbrev pub face_number : List ℕ → ℤ
face_number t = pos (face_count (rotation t))

-- what an edit's answer says of the faces, document 02, request a: a rule its change; a vertex added +1, one removed -1; a refusal 0
abbrev pub vertex_tells : Edit → ℤ
vertex_tells (AddVertex v) = number more
vertex_tells (RemoveVertex v) = number less
vertex_tells (InsertEdge e c₁ c₂ k n) = pos 0
vertex_tells (DeleteEdge e) = pos 0
vertex_tells (TurnEdge e a) = pos 0

abbrev pub rule_tells : Edit → Option Rule → ℤ
rule_tells E None = vertex_tells E
rule_tells E (Some r) = number (rule_change r)

abbrev pub tells : Edit → Result Reply Refusal → ℤ
tells E (Ok y) = rule_tells E y.rule
tells E (Err r) = pos 0

-- what the answers of the whole run say
unfoldable pub told : List ℕ → List Edit → ℤ
told t [] = pos 0
told t (E ∷ Es) = tells E (reply t E) +ℤ told (edited t E) Es

-- document 02, request g, "Insertion takes a length": the one that an insertion of edge e gives it, and l by any other edit
abbrev pub length_in : Edit → ℕ → ℕ → ℕ
length_in (AddVertex v) e l = l
length_in (RemoveVertex v) e l = l
length_in (InsertEdge e' c₁ c₂ k n) e l = cond (eqb e e') n l
length_in (DeleteEdge e') e l = l
length_in (TurnEdge e' a) e l = l

abbrev pub length_by : Verdict → Edit → ℕ → ℕ → ℕ
length_by (Ok tt) E e l = length_in E e l
length_by (Err r) E e l = l

-- the length that the last accepted insertion of edge e gave it, l where the run has none
unfoldable pub length_given : List ℕ → List Edit → ℕ → ℕ → ℕ
length_given t [] e l = l
length_given t (E ∷ Es) e l = length_given (edited t E) Es e (length_by (verdict t E) E e l)
