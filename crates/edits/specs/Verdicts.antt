-- Which edits are declined, and with which number: document 01, "When a call declines". "Where several hold: 1, 2, 3, 4, 5, 6",
-- and of an insertion 9 after them. First what the edit names is tested, 1 to 4, then what it may not pass, 5, 6 and 9; nothing is written before.
--     Verdict, verdict                   does it go through; the answer of all tests, one list after the other
--     on_names, on_limits                the two lists of tests
--     new_vertex, old_vertex             the vertex to add; the vertex named
--     new_edge, old_edge                 the edge to add, with its corners; the edge named
--     isolation, few_turns, fair_length  5, joined; 6, overturned; 9, far
--     vertex_there, edge_there           is the vertex live; is the edge live
--     and_then                            one list of tests after another
use Rattle.std.specs.Prelude.{ℕ, Bool, not, ◌&&◌, List, eqb, ltb, leb, ℤ, ◌+ℤ◌, Ok, Err, Result, ⊤}
use Rattle.table.specs.Layout.{vertices, edges, nothing, isolated, edge_word, vertex_word, longest}
use Rattle.table.specs.Rotation.{rotation}
use Rattle.table.specs.Check.{good?}
use Rattle.table.specs.Answers.{unless}
use Rattle.table.specs.declared.answer.Refusal.{Refusal}
use Rattle.table.specs.declared.answer.Refusal.TheVariants.{Torn, NoSuchName, Taken, Absent, Joined, Overturned, Far}
use Rattle.tracing.specs.Corner.{well_formed, present}
use Rattle.edits.specs.Turns.{turns_in, overturned}
use Rattle.edits.specs.declared.edit.Edit.{Edit}
use Rattle.edits.specs.declared.edit.Edit.TheVariants.{AddVertex, RemoveVertex, InsertEdge, DeleteEdge, TurnEdge}

-- an edit goes through, or is declined with a refusal
abbrev pub Verdict : Type 0
Verdict = Result ⊤ Refusal

-- is vertex v there; is edge e live
abbrev pub vertex_there : List ℕ → ℕ → Bool
vertex_there t v = not (eqb (vertex_word t v) nothing)

abbrev pub edge_there : List ℕ → ℕ → Bool
edge_there t e = not (eqb (edge_word t e) 0)

-- "vertex .. to add is live"
unfoldable pub new_vertex : List ℕ → ℕ → Verdict
new_vertex t v =
    unless (good? t) (Err Torn)
    (unless (ltb v vertices) (Err NoSuchName)
    (unless (not (vertex_there t v)) (Err Taken)
    (Ok tt)))

-- "vertex .. named is not there"
unfoldable pub old_vertex : List ℕ → ℕ → Verdict
old_vertex t v =
    unless (good? t) (Err Torn)
    (unless (ltb v vertices) (Err NoSuchName)
    (unless (vertex_there t v) (Err Absent)
    (Ok tt)))

-- "malformed corner"; "edge to add is live"; "corner named is not there"
unfoldable pub new_edge : List ℕ → ℕ → ℕ → ℕ → Verdict
new_edge t e c₁ c₂ =
    unless (good? t) (Err Torn)
    (unless (ltb e edges && (well_formed c₁ && well_formed c₂)) (Err NoSuchName)
    (unless (not (edge_there t e)) (Err Taken)
    (unless (present (rotation t) c₁ && present (rotation t) c₂) (Err Absent)
    (Ok tt))))

-- "edge .. named is not there"
unfoldable pub old_edge : List ℕ → ℕ → Verdict
old_edge t e =
    unless (good? t) (Err Torn)
    (unless (ltb e edges) (Err NoSuchName)
    (unless (edge_there t e) (Err Absent)
    (Ok tt)))

-- 1 to 4
abbrev pub on_names : List ℕ → Edit → Verdict
on_names t (AddVertex v) = new_vertex t v
on_names t (RemoveVertex v) = old_vertex t v
on_names t (InsertEdge e c₁ c₂ k n) = new_edge t e c₁ c₂
on_names t (DeleteEdge e) = old_edge t e
on_names t (TurnEdge e a) = old_edge t e

-- 5, "vertex to remove has an edge"
abbrev pub isolation : ℕ → Verdict
isolation w = unless (eqb w isolated) (Err Joined) (Ok tt)

-- 6, "turns would pass 99 either way"
abbrev pub few_turns : ℤ → Verdict
few_turns k = unless (not (overturned k)) (Err Overturned) (Ok tt)

-- 9, "A length of 0 on insertion is 9, the last of the edit's own numbers": a length is from 1 to 65,535
abbrev pub fair_length : ℕ → Verdict
fair_length n = unless (ltb 0 n && leb n longest) (Err Far) (Ok tt)

-- one list of tests after another
abbrev pub and_then : Verdict → Verdict → Verdict
and_then (Ok tt) v = v
and_then (Err r) v = Err r

-- 5, 6 and 9
abbrev pub on_limits : List ℕ → Edit → Verdict
on_limits t (AddVertex v) = Ok tt
on_limits t (RemoveVertex v) = isolation (vertex_word t v)
on_limits t (InsertEdge e c₁ c₂ k n) = and_then (few_turns k) (fair_length n)
on_limits t (DeleteEdge e) = Ok tt
on_limits t (TurnEdge e a) = few_turns (turns_in (edge_word t e) +ℤ a)

abbrev pub verdict : List ℕ → Edit → Verdict
verdict t E = and_then (on_names t E) (on_limits t E)
