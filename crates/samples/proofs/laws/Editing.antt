-- Runs of edits on sparse tables: as `run` and its answers on the table itself.
--     verdict_on, edited_on, answer_on  one edit on a sparse table: its verdict, what it leaves, its answer
--     rule_on, reply_on                its rule, and the answer with it
--     run_on, answers_on               a run, and its answers
--     run_on_lem, answers_on_lem       they are those of the table itself
--     verdict_by                        the verdict on a good table, from a function that reads its words
use Rattle.std.specs.Prelude.{ℕ, ◌+◌, ◌≡◌, refl, not, Bool, ◌&&◌, List, [], ◌∷◌, eqb, ltb, get_or, ℤ, ◌+ℤ◌, Ok, Err, Option, None, Some, Result}
use Rattle.std.proofs.Common.{◌∙◌}
use Rattle.std.proofs.Math.Path.{ap, ap₂}
use Rattle.table.specs.Layout.{vertices, edges, nothing, edge_at, vertex_at}
use Rattle.table.specs.Rotation.{rotation}
use Rattle.table.specs.Good.{Good}
use Rattle.table.specs.laws.Check.{good_yes}
use Rattle.table.specs.Answers.{unless, Answer}
use Rattle.table.specs.declared.answer.Refusal.TheVariants.{NoSuchName, Taken, Absent}
use Rattle.tracing.specs.Listing.{face_count}
use Rattle.tracing.specs.Corner.{well_formed, present}
use Rattle.edits.specs.Turns.{turns_in}
use Rattle.edits.specs.Verdicts.{verdict, and_then, isolation, few_turns, fair_length, new_vertex, old_vertex, new_edge, old_edge, Verdict}
use Rattle.edits.specs.Edits.{edited, answer}
use Rattle.edits.proofs.laws.Edits.{edited_passes, edited_declines, answer_passes, answer_declines}
use Rattle.surgery.specs.Change.{insertion, deletion, turning}
use Rattle.edits.specs.Changes.{oddness}
use Rattle.edits.specs.Rules.{rule_for, turn_rule, rule_of, with_rule, reply, reply_code}
use Rattle.edits.specs.declared.rule.Rule.{Rule}
use Rattle.edits.specs.declared.rule.Reply.{Reply}
use Rattle.edits.specs.declared.edit.Edit.{Edit}
use Rattle.edits.specs.declared.edit.Edit.TheVariants.{AddVertex, RemoveVertex, InsertEdge, DeleteEdge, TurnEdge}
use Rattle.runs.specs.Run.{run}
use Rattle.runs.proofs.laws.Theorem.{edited_good}
use Rattle.samples.specs.Samples.{answers}
use Rattle.samples.proofs.laws.Sparse.{Writes, table_of, read, put_read}
use Rattle.samples.proofs.laws.SparseMesh.{rotation_by, rotation_by_lem, faces_on, faces_read_lem, meeting_on, sides_on, meeting_read, sides_read}
use Rattle.samples.proofs.laws.Writing.{written_on, written_on_lem}
use Rattle.table.specs.declared.answer.Refusal.{Refusal}

-- the verdict on a good table whose word at i is g i
module _ (g : ℕ → ℕ) where
  abbrev vertex_by : ℕ → Bool → Refusal → Verdict
  vertex_by v test r = unless (ltb v vertices) (Err NoSuchName) (unless test (Err r) (Ok tt))

  abbrev edge_by : ℕ → Verdict
  edge_by e = unless (ltb e edges) (Err NoSuchName) (unless (not (eqb (g (edge_at + e)) 0)) (Err Absent) (Ok tt))

  abbrev verdict_by : Edit → Verdict
  verdict_by (AddVertex v) = and_then (vertex_by v (not (not (eqb (g (vertex_at + v)) nothing))) Taken) (Ok tt)
  verdict_by (RemoveVertex v) = and_then (vertex_by v (not (eqb (g (vertex_at + v)) nothing)) Absent) (isolation (g (vertex_at + v)))
  verdict_by (InsertEdge e c₁ c₂ k n) =
      and_then
      (unless (ltb e edges && (well_formed c₁ && well_formed c₂)) (Err NoSuchName)
      (unless (not (not (eqb (g (edge_at + e)) 0))) (Err Taken)
      (unless (present (rotation_by g) c₁ && present (rotation_by g) c₂) (Err Absent)
      (Ok tt))))
      (and_then (few_turns k) (fair_length n))
  verdict_by (DeleteEdge e) = and_then (edge_by e) (Ok tt)
  verdict_by (TurnEdge e a) = and_then (edge_by e) (few_turns (turns_in (g (edge_at + e)) +ℤ a))

verdict_by_lem : (t : List ℕ) (E : Edit) → Good t → verdict t E ≡ verdict_by (λ i. get_or t i 0) E
unfolding new_vertex old_vertex new_edge old_edge
verdict_by_lem t (AddVertex v) g = rw (← good_yes t g)
verdict_by_lem t (RemoveVertex v) g = rw (← good_yes t g)
verdict_by_lem t (InsertEdge e c₁ c₂ k n) g = rw (← good_yes t g, rotation_by_lem t)
verdict_by_lem t (DeleteEdge e) g = rw (← good_yes t g)
verdict_by_lem t (TurnEdge e a) g = rw (← good_yes t g)

abbrev writes_by : Verdict → Writes → Writes → Writes
writes_by (Ok tt) new old = new
writes_by (Err r) new old = old

abbrev answered_by : Verdict → ℕ → Answer
answered_by (Ok tt) n = Ok n
answered_by (Err r) n = Err r

unfoldable pub verdict_on : Writes → Edit → Verdict
verdict_on ws E = verdict_by (read ws) E

unfoldable pub edited_on : Writes → Edit → Writes
edited_on ws E = writes_by (verdict_on ws E) (written_on ws E) ws

unfoldable pub answer_on : Writes → Edit → Answer
answer_on ws E = answered_by (verdict_on ws E) (faces_on (written_on ws E))

-- the rule of an edit, and its answer with it
unfoldable pub rule_on : Writes → Edit → Option Rule
rule_on ws (AddVertex v) = None
rule_on ws (RemoveVertex v) = None
rule_on ws (InsertEdge e c₁ c₂ k n) = Some (rule_for (insertion (meeting_on ws c₁ c₂) (oddness k)))
rule_on ws (DeleteEdge e) = Some (rule_for (deletion (sides_on ws e)))
rule_on ws (TurnEdge e a) = Some (turn_rule (oddness a) (turning (sides_on ws e)))

unfoldable pub reply_on : Writes → Edit → Result Reply Refusal
reply_on ws E = with_rule (answer_on ws E) (rule_on ws E)

rule_on_lem : (ws : Writes) (E : Edit) → rule_of (table_of ws) E ≡ rule_on ws E
unfolding rule_on
rule_on_lem ws (AddVertex v) = refl
rule_on_lem ws (RemoveVertex v) = refl
rule_on_lem ws (InsertEdge e c₁ c₂ k n) = ap (λ m. Some (rule_for (insertion m (oddness k)))) (meeting_read ws c₁ c₂)
rule_on_lem ws (DeleteEdge e) = ap (λ s. Some (rule_for (deletion s))) (sides_read ws e)
rule_on_lem ws (TurnEdge e a) = ap (λ s. Some (turn_rule (oddness a) (turning s))) (sides_read ws e)

module _ (ws : Writes) (E : Edit) (g : Good (table_of ws)) where
  verdict_on_lem : verdict (table_of ws) E ≡ verdict_on ws E
  unfolding verdict_on
  verdict_on_lem = verdict_by_lem (table_of ws) E g ∙ ap (λ h. verdict_by h E) (put_read ws)

  edited_on_lem : edited (table_of ws) E ≡ table_of (edited_on ws E)
  unfolding edited_on
  edited_on_lem = by (verdict_on ws E) verdict_on_lem
    where
      by : (v : Verdict) → verdict (table_of ws) E ≡ v → edited (table_of ws) E ≡ table_of (writes_by v (written_on ws E) ws)
      by (Ok tt) e = edited_passes (table_of ws) E e ∙ written_on_lem ws E
      by (Err r) e = edited_declines (table_of ws) E r e

  answer_on_lem : answer (table_of ws) E ≡ answer_on ws E
  unfolding answer_on
  answer_on_lem = by (verdict_on ws E) verdict_on_lem
    where
      by : (v : Verdict) → verdict (table_of ws) E ≡ v → answer (table_of ws) E ≡ answered_by v (faces_on (written_on ws E))
      by (Ok tt) e = answer_passes (table_of ws) E e ∙ ap (λ t. Ok (face_count (rotation t))) (written_on_lem ws E) ∙ ap Ok (faces_read_lem (written_on ws E))
      by (Err r) e = answer_declines (table_of ws) E r e

  reply_on_lem : reply (table_of ws) E ≡ reply_on ws E
  unfolding reply reply_on
  reply_on_lem = ap₂ with_rule answer_on_lem (rule_on_lem ws E)

  good_on : Good (table_of (edited_on ws E))
  good_on = rw edited_on_lem at (edited_good (table_of ws) E g)

unfoldable pub run_on : Writes → List Edit → Writes
run_on ws [] = ws
run_on ws (E ∷ Es) = run_on (edited_on ws E) Es

unfoldable pub answers_on : Writes → List Edit → List ℤ
answers_on ws [] = []
answers_on ws (E ∷ Es) = reply_code (reply_on ws E) ∷ answers_on (edited_on ws E) Es

pub run_on_lem : (ws : Writes) (Es : List Edit) → Good (table_of ws) → run (table_of ws) Es ≡ table_of (run_on ws Es)
unfolding run run_on
run_on_lem ws [] g = refl
run_on_lem ws (E ∷ Es) g = ap (λ t. run t Es) (edited_on_lem ws E g) ∙ run_on_lem (edited_on ws E) Es (good_on ws E g)

pub answers_on_lem : (ws : Writes) (Es : List Edit) → Good (table_of ws) → answers (table_of ws) Es ≡ answers_on ws Es
unfolding answers answers_on
answers_on_lem ws [] g = refl
answers_on_lem ws (E ∷ Es) g =
    ap₂ (λ r l. reply_code r ∷ l) (reply_on_lem ws E g) (ap (λ t. answers t Es) (edited_on_lem ws E g) ∙ answers_on_lem (edited_on ws E) Es (good_on ws E g))
