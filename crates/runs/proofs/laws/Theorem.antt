-- The third demand holds: for every list of edits, declined ones included, from every good table, and so from the empty mesh.
-- The laws of one edit, by induction along the run; the laws of good tables, at the table after it.
--     run_laws, empty_run_laws                     the third demand: from every good table; from the empty mesh
--     edited_good, edited_count, answered_count    one edit: a good table, the face count as called for, and answered
--     run_good, run_count                          the whole run: the table is good, the face count is what the rules call for
--     tells_calls, told_called                     what the answers say is what the rules call for
--     answered_rule                                the rule says how the answered number came of the one before
--     edited_length, run_length                    the length of an edge after an edit; after the run
use Rattle.table.specs.Answers.{Answer}
use Rattle.std.specs.Prelude.{ℕ, ◌≡◌, refl, List, [], ◌∷◌, ◌++◌, ◌≢◌, eqb, pos, ◌+ℤ◌, Ok, Option, None, Some}
use Rattle.std.proofs.Common.{arith, sym, ◌∙◌, ap, ap₂}
use Rattle.std.proofs.Math.IntN.{+ℤ_idr, +ℤ_assoc}
use Rattle.orbits.proofs.laws.Truth.{truth, holds, fails}
use Rattle.table.specs.Layout.{length_word}
use Rattle.table.specs.Good.{Good}
use Rattle.table.specs.Rotation.{Rotation, Lawful, rotation}
use Rattle.table.specs.laws.Check.{good_yes}
use Rattle.table.specs.laws.Lawful.{good_lawful}
use Rattle.table.specs.Empty.{empty_table}
use Rattle.table.specs.laws.Empty.{empty_good}
use Rattle.table.specs.laws.Output.{output_accepted, done_declined}
use Rattle.table.specs.laws.Signed.{difference, below, above}
use Rattle.tracing.specs.Listing.{face_count, listing}
use Rattle.tracing.proofs.laws.Met.{present_once, absent_never}
use Rattle.tracing.proofs.laws.Edges.{edge_twice}
use Rattle.tracing_walks.specs.laws.Stands.{stands_low}
use Rattle.surgery.specs.Change.{Change, less, as_many, more, Changes}
use Rattle.edits.specs.Edits.{edited, answer, length_after}
use Rattle.edits.proofs.laws.Edits.{edited_passes, edited_declines, answer_passes, answer_declines}
use Rattle.edits.proofs.laws.WrittenGood.{written_good}
use Rattle.edits.proofs.laws.Accepted.{written_length}
use Rattle.edits.specs.Changes.{change}
use Rattle.edits.proofs.laws.Changes.{written_changes}
use Rattle.edits.specs.Rules.{rule_of, rule_change, with_rule, reply}
use Rattle.edits.proofs.laws.Rules.{rule_change_lem, rule_changes}
use Rattle.edits.specs.declared.rule.Rule.{Rule}
use Rattle.edits.specs.declared.edit.Edit.{Edit}
use Rattle.edits.specs.declared.edit.Edit.TheVariants.{AddVertex, RemoveVertex, InsertEdge, DeleteEdge, TurnEdge}
use Rattle.surface.proofs.laws.Labels.{orientable_marks}
use Rattle.surface.proofs.laws.Listed.{one_part, part_once, part_named, part_alone, walk_once, walk_part}
use Rattle.surface.proofs.laws.Tables.{table_parts, table_sum}
use Rattle.surface.specs.Calls.{counts_of, part_rows}
use Rattle.weave.proofs.laws.Calls.{letters_accepted, alternates_accepted, plain_accepted}
use Rattle.weave.proofs.laws.Ribbon.{alternates_iff}
use Rattle.runs.specs.Run.{run, number, calls, called, tells, told, face_number, length_in, length_by, length_given}
use Rattle.runs.proofs.laws.Run.{run_append, run_one}
use Rattle.runs.specs.RunLaws.{RunLaws}
use Rattle.edits.specs.Verdicts.{verdict}
use Rattle.edits.proofs.laws.Verdicts.{judged, passed, declined}

same : {n m : ℕ} → ◌≡◌ {A = Answer} (Ok n) (Ok m) → n ≡ m
same e = cc

-- one edit

pub edited_good : (t : List ℕ) (E : Edit) → Good t → Good (edited t E)
edited_good t E g = elim (judged (verdict t E)) [
  | passed p ↦ rw (edited_passes t E p) (written_good t E p)
  | declined r p ↦ rw (edited_declines t E r p) g
]

-- a change of the number of faces, as a sum
change_sum : (c : Change) (F G : ℕ) → Changes c F G → pos G ≡ pos F +ℤ number c
change_sum less F G e = elim (difference F 1) [
  | below h q ↦ absurd (omega arith)
  | above h q ↦ sym (q ∙ ap pos (omega arith))
]
change_sum as_many F G e = ap pos e ∙ ap pos (omega arith)
change_sum more F G e = ap pos (omega arith)

pub edited_count : (t : List ℕ) (E : Edit) → Good t → face_number (edited t E) ≡ face_number t +ℤ calls t E
unfolding calls
edited_count t E g = elim (judged (verdict t E)) [
  | passed p ↦ rw (edited_passes t E p, p) (change_sum (change t E) _ _ (written_changes t E p))
  | declined r p ↦ rw (edited_declines t E r p, p) (sym (+ℤ_idr (face_number t)))
]

-- what an edit's answer says is what its rule calls for
tells_calls : (t : List ℕ) (E : Edit) → tells E (reply t E) ≡ calls t E
unfolding calls reply
tells_calls t E = elim (judged (verdict t E)) [
  | passed p ↦ rw (answer_passes t E p, p) (by E 0)
  | declined r p ↦ rw (answer_declines t E r p, p)
]
  where
    by : (E : Edit) (n : ℕ) → tells E (with_rule (Ok n) (rule_of t E)) ≡ number (change t E)
    by (AddVertex v) n = refl
    by (RemoveVertex v) n = refl
    by (InsertEdge e c₁ c₂ k l) n = ap number (rule_change_lem t (InsertEdge e c₁ c₂ k l) _ refl)
    by (DeleteEdge e) n = ap number (rule_change_lem t (DeleteEdge e) _ refl)
    by (TurnEdge e a) n = ap number (rule_change_lem t (TurnEdge e a) _ refl)

-- and the rule says how the answered number came of the one before
answered_rule : (t : List ℕ) (E : Edit) (n : ℕ) → answer t E ≡ Ok n
    → (reply t E ≡ with_rule (Ok n) (rule_of t E)) × ((r : Rule) → rule_of t E ≡ Some r → Changes (rule_change r) (face_count (rotation t)) n)
unfolding reply
answered_rule t E n a = (
  rw a,
  λ r q. elim (judged (verdict t E)) [
    | passed p ↦ rw (same (sym a ∙ answer_passes t E p)) (rule_changes t E r p q)
    | declined s p ↦ absurd (done_declined (sym (answer_declines t E s p) ∙ a))
  ],
)

-- an edit that answers a number went through, and the number is the new face count
pub answered_count : (t : List ℕ) (E : Edit) (n : ℕ) → answer t E ≡ Ok n → pos n ≡ face_number (edited t E)
answered_count t E n a = elim (judged (verdict t E)) [
  | passed p ↦ rw (edited_passes t E p) (ap pos (same (sym a ∙ answer_passes t E p)))
  | declined r p ↦ absurd (done_declined (sym (answer_declines t E r p) ∙ a))
]

-- the whole run

pub run_good : (t : List ℕ) (Es : List Edit) → Good t → Good (run t Es)
unfolding run
run_good t [] g = g
run_good t (E ∷ Es) g = run_good (edited t E) Es (edited_good t E g)

pub run_count : (t : List ℕ) (Es : List Edit) → Good t → face_number (run t Es) ≡ face_number t +ℤ called t Es
unfolding run called
run_count t [] g = sym (+ℤ_idr (face_number t))
run_count t (E ∷ Es) g =
    run_count (edited t E) Es (edited_good t E g)
    ∙ ap (λ z. z +ℤ called (edited t E) Es) (edited_count t E g)
    ∙ +ℤ_assoc (face_number t) (calls t E) (called (edited t E) Es)

told_called : (t : List ℕ) (Es : List Edit) → told t Es ≡ called t Es
unfolding told called
told_called t [] = refl
told_called t (E ∷ Es) = ap₂ ◌+ℤ◌ (tells_calls t E) (told_called (edited t E) Es)

-- a length is 0 once its edge is deleted, and is else what was given
after_given : (E : Edit) (e x l : ℕ) → (x ≢ 0 → x ≡ l) → length_after E e x ≢ 0 → length_after E e x ≡ length_in E e l
after_given (AddVertex v) e x l k n = k n
after_given (RemoveVertex v) e x l k n = k n
after_given (InsertEdge e' c₁ c₂ t m) e x l k n = elim (truth (eqb e e')) [
  | holds q ↦ rw q
  | fails q ↦ rw q (k (rw q at n))
]
after_given (DeleteEdge e') e x l k n = elim (truth (eqb e e')) [
  | holds q ↦ absurd (n (rw q))
  | fails q ↦ rw q (k (rw q at n))
]
after_given (TurnEdge e' a) e x l k n = k n

edited_length : (t : List ℕ) (E : Edit) (e l : ℕ) → (length_word t e ≢ 0 → length_word t e ≡ l)
    → length_word (edited t E) e ≢ 0 → length_word (edited t E) e ≡ length_by (verdict t E) E e l
edited_length t E e l k = elim (judged (verdict t E)) [
  | passed p ↦ rw (edited_passes t E p, p, written_length t E p e) (after_given E e (length_word t e) l k)
  | declined r p ↦ rw (edited_declines t E r p, p) k
]

run_length : (t : List ℕ) (Es : List Edit) (e l : ℕ) → (length_word t e ≢ 0 → length_word t e ≡ l)
    → length_word (run t Es) e ≢ 0 → length_word (run t Es) e ≡ length_given t Es e l
unfolding run length_given
run_length t [] e l k = k
run_length t (E ∷ Es) e l k = run_length (edited t E) Es e (length_by (verdict t E) E e l) (edited_length t E e l k)

pub run_laws : (t : List ℕ) → Good t → (Es : List Edit) → RunLaws t Es
run_laws t g Es = record {
  good = after;
  checked = rw (← good_yes (run t Es) after);
  corners_once = present_once R L;
  no_others = absent_never R L;
  edges_twice = λ e l. edge_twice R L e l;
  one_part = one_part L;
  part_once = part_once L;
  part_named = part_named L;
  part_alone = part_alone L;
  part_marked = λ r h. orientable_marks L r;
  walk_once = walk_once L;
  walk_part = walk_part L;
  part_euler_lem = λ r h. table_parts after r h;
  mesh_euler_lem = table_sum after;
  count = run_count t Es g;
  answered = λ front E back e n a.
      answered_count (run t front) E n a
      ∙ ap face_number (sym (run_append t front (E ∷ []) ∙ run_one (run t front) E))
      ∙ run_count t (front ++ (E ∷ [])) g;
  ruled = λ front E back e n a. answered_rule (run t front) E n a;
  told_count = run_count t Es g ∙ ap (λ z. face_number t +ℤ z) (sym (told_called t Es));
  lengths = λ e h on. run_length t Es e (length_word t e) (λ _. refl) ((after.lengths e h).some on);
  alternation = λ s h. alternates_iff (run t Es) after s (stands_low (record { good = after; live = h }));
  listing_call = λ out. output_accepted (run t Es) (listing R) out;
  counts_call = λ out. output_accepted (run t Es) (counts_of R) out;
  parts_call = λ out. output_accepted (run t Es) (part_rows R) out;
  letters_call = λ d k out. letters_accepted (run t Es) d k out;
  alternates_call = λ d k n a. alternates_accepted (run t Es) d k n a;
  plain_call = λ n a. plain_accepted (run t Es) n a;
}
  where
    after : Good (run t Es)
    after = run_good t Es g

    R : Rotation
    R = rotation (run t Es)

    L : Lawful R
    L = good_lawful (run t Es) after

-- "The slice begins as the empty mesh or as any good table"
pub empty_run_laws : (Es : List Edit) → RunLaws empty_table Es
empty_run_laws Es = run_laws empty_table empty_good Es
