-- The third demand of a run that holds commits: each deed leaves the table of the plain edits that it counts as; then the laws of a run of edits.
--     deed_laws, empty_deed_laws                                   the third demand: from every good table; from the empty mesh
--     commit_good, commit_count, commit_run                        one commit: a good table, the face count, the plain edits
--     commit_answered, commit_away                                 its answer; turned away, it leaves the table
--     done_good, done_count, done_run, done_answered, done_away    the same of any deed
--     ran_count, ran_counted                                       the whole run: the face count; the plain edits that it counts as
use Rattle.table.specs.Answers.{Answer}
use Rattle.std.specs.Prelude.{ℕ, refl, List, [], ◌∷◌, ◌++◌, pos, ◌+ℤ◌, Ok, Err, Option, None, Some, Result}
use Rattle.edits.specs.declared.rule.Reply.{Reply}
use Rattle.std.proofs.Common.{arith, sym, ◌∙◌, ap}
use Rattle.std.proofs.Math.Path.{◌≡◌, sym, ap}
use Rattle.std.proofs.Math.IntN.{+ℤ_idr, +ℤ_assoc}
use Rattle.table.specs.Good.{Good}
use Rattle.table.specs.Empty.{empty_table}
use Rattle.table.specs.laws.Empty.{empty_good}
use Rattle.table.specs.declared.answer.Refusal.{Refusal}
use Rattle.edits.specs.Edits.{edited, answer}
use Rattle.edits.specs.Rules.{rule_of, with_rule, reply}
use Rattle.edits.specs.Verdicts.{verdict}
use Rattle.edits.proofs.laws.Verdicts.{judged, passed, declined}
use Rattle.edits.proofs.laws.Edits.{edited_declines, answer_passes}
use Rattle.edits.specs.declared.edit.Edit.{Edit}
use Rattle.edits.specs.declared.rule.Rule.{Rule}
use Rattle.forecasts.specs.declared.forecast.Forecast.{Forecast}
use Rattle.forecasts.specs.Forecast.{commit_verdict, commit_reply, committed}
use Rattle.forecasts.proofs.laws.Forecast.{asked_passes, commit_exactly, commit_plain, commit_declines}
use Rattle.runs.specs.Run.{run, calls, face_number}
use Rattle.runs.proofs.laws.Run.{run_append, run_one}
use Rattle.runs.proofs.laws.Theorem.{edited_good, edited_count, answered_count, run_laws}
use Rattle.runs_deeds.specs.Deeds.{Deed, edit, commit, done, deed_reply, edit_in, ran, due, due_in, counts_as, counted}
use Rattle.runs_deeds.specs.DeedLaws.{DeedLaws}

-- a reply with a count is that of an edit that answered it, with the edit's rule
module _ (t : List ℕ) (E : Edit) (n : ℕ) (m : Option Rule) where
  counts_in : reply t E ≡ with_rule (Ok n) m → (answer t E ≡ Ok n) × (m ≡ rule_of t E)
  unfolding reply
  counts_in e = by (answer t E) (rule_of t E) m e
    where
      same : {x y : Reply} → ◌≡◌ {A = Result Reply Refusal} (Ok x) (Ok y) → x ≡ y
      same e = cc

      by : (a : Answer) (o m : Option Rule) → with_rule a o ≡ with_rule (Ok n) m → (a ≡ Ok n) × (m ≡ o)
      by (Ok k) o m e = let q = same e in (ap Ok (ap (λ y. y.faces) q), sym (ap (λ y. y.rule) q))
      by (Err r) o m e = absurd (let z : ◌≡◌ {A = ℕ} 0 1 = cc in omega arith)

-- a refusal is no reply with a count
no_count : {r : Refusal} (n : ℕ) (m : Option Rule) → Err r ≡ with_rule (Ok n) m → ⊥
no_count n m e = let z : ◌≡◌ {A = ℕ} 0 1 = cc in omega arith

-- an edit that answers a refusal leaves the table
refused_keeps : (t : List ℕ) (E : Edit) (r : Refusal) → reply t E ≡ Err r → edited t E ≡ t
unfolding reply
refused_keeps t E r e = elim (judged (verdict t E)) [
  | passed p ↦ absurd (no_count _ (rule_of t E) (sym e ∙ ap (λ a. with_rule a (rule_of t E)) (answer_passes t E p)))
  | declined s p ↦ edited_declines t E s p
]

run_none : (t : List ℕ) → run t [] ≡ t
unfolding run
run_none t = refl

-- one commit
module _ (t : List ℕ) (E : Edit) (f : Forecast) where
  commit_good : Good t → Good (committed t E f)
  commit_good g = elim (judged (commit_verdict t E f)) [
    | passed p ↦ rw (commit_plain t E f p).1 (edited_good t E g)
    | declined r p ↦ rw (commit_declines t E f r p).1 g
  ]

  commit_count : Good t → face_number (committed t E f) ≡ face_number t +ℤ due t (commit E f)
  unfolding calls
  commit_count g = elim (judged (commit_verdict t E f)) [
    | passed p ↦ rw ((commit_plain t E f p).1, p) (edited_count t E g ∙ rw (asked_passes t E ((commit_exactly t E f).0 p)).0)
    | declined r p ↦ rw ((commit_declines t E f r p).1, p) (sym (+ℤ_idr (face_number t)))
  ]

  commit_run : run t (counts_as t (commit E f)) ≡ committed t E f
  commit_run = elim (judged (commit_verdict t E f)) [
    | passed p ↦ rw p (run_one t E) ∙ sym (commit_plain t E f p).1
    | declined r p ↦ rw p (run_none t) ∙ sym (commit_declines t E f r p).1
  ]

  commit_answered : (n : ℕ) (m : Option Rule) → commit_reply t E f ≡ with_rule (Ok n) m → (pos n ≡ face_number (committed t E f)) × (m ≡ rule_of t E)
  commit_answered n m e = elim (judged (commit_verdict t E f)) [
    | passed p ↦ let c = counts_in t E n m (sym (commit_plain t E f p).0 ∙ e) in
        (answered_count t E n c.0 ∙ ap face_number (sym (commit_plain t E f p).1), c.1)
    | declined r p ↦ absurd (no_count n m (sym (commit_declines t E f r p).0 ∙ e))
  ]

  commit_away : (r : Refusal) → commit_reply t E f ≡ Err r → committed t E f ≡ t
  commit_away r e = elim (judged (commit_verdict t E f)) [
    | passed p ↦ (commit_plain t E f p).1 ∙ refused_keeps t E r (sym (commit_plain t E f p).0 ∙ e)
    | declined s p ↦ (commit_declines t E f s p).1
  ]

-- one deed

done_good : (t : List ℕ) (D : Deed) → Good t → Good (done t D)
done_good t (edit E) g = edited_good t E g
done_good t (commit E f) g = commit_good t E f g

done_count : (t : List ℕ) (D : Deed) → Good t → face_number (done t D) ≡ face_number t +ℤ due t D
done_count t (edit E) g = edited_count t E g
done_count t (commit E f) g = commit_count t E f g

done_run : (t : List ℕ) (D : Deed) → run t (counts_as t D) ≡ done t D
done_run t (edit E) = run_one t E
done_run t (commit E f) = commit_run t E f

done_answered : (t : List ℕ) (D : Deed) (n : ℕ) (m : Option Rule) → deed_reply t D ≡ with_rule (Ok n) m
    → (pos n ≡ face_number (done t D)) × (m ≡ rule_of t (edit_in D))
done_answered t (edit E) n m e = let c = counts_in t E n m e in (answered_count t E n c.0, c.1)
done_answered t (commit E f) n m e = commit_answered t E f n m e

done_away : (t : List ℕ) (D : Deed) (r : Refusal) → deed_reply t D ≡ Err r → done t D ≡ t
done_away t (edit E) r e = refused_keeps t E r e
done_away t (commit E f) r e = commit_away t E f r e

-- the whole run

ran_append : (t : List ℕ) (Ds Fs : List Deed) → ran t (Ds ++ Fs) ≡ ran (ran t Ds) Fs
unfolding ran
ran_append t [] Fs = refl
ran_append t (D ∷ Ds) Fs = ran_append (done t D) Ds Fs

ran_one : (t : List ℕ) (D : Deed) → ran t (D ∷ []) ≡ done t D
unfolding ran
ran_one t D = refl

ran_count : (t : List ℕ) (Ds : List Deed) → Good t → face_number (ran t Ds) ≡ face_number t +ℤ due_in t Ds
unfolding ran due_in
ran_count t [] g = sym (+ℤ_idr (face_number t))
ran_count t (D ∷ Ds) g =
    ran_count (done t D) Ds (done_good t D g)
    ∙ ap (λ z. z +ℤ due_in (done t D) Ds) (done_count t D g)
    ∙ +ℤ_assoc (face_number t) (due t D) (due_in (done t D) Ds)

ran_counted : (t : List ℕ) (Ds : List Deed) → ran t Ds ≡ run t (counted t Ds)
unfolding ran counted
ran_counted t [] = sym (run_none t)
ran_counted t (D ∷ Ds) =
    ran_counted (done t D) Ds
    ∙ ap (λ u. run u (counted (done t D) Ds)) (sym (done_run t D))
    ∙ sym (run_append t (counts_as t D) (counted (done t D) Ds))

pub deed_laws : (t : List ℕ) → Good t → (Ds : List Deed) → DeedLaws t Ds
deed_laws t g Ds = record {
  as_edits = ran_counted t Ds;
  laws = run_laws t g (counted t Ds);
  count = ran_count t Ds g;
  answered = λ front D back e n m a.
      let d = done_answered (ran t front) D n m a in
      (d.0 ∙ ap face_number (sym (ran_append t front (D ∷ []) ∙ ran_one (ran t front) D)) ∙ ran_count t (front ++ (D ∷ [])) g, d.1);
  exactly = λ front E f back e. commit_exactly (ran t front) E f;
  turned_away = λ front D back e r a. done_away (ran t front) D r a;
}

-- "The slice begins as the empty mesh or as any good table"
pub empty_deed_laws : (Ds : List Deed) → DeedLaws empty_table Ds
empty_deed_laws Ds = deed_laws empty_table empty_good Ds
