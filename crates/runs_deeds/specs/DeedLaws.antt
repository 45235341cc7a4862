-- The third demand of a run that holds commits: one claim about the whole run. It holds for every list of edits and commits, with any forecasts, those
-- that are turned away included, from every good table, and so from the empty mesh (`Theorems`).
use Rattle.std.specs.Prelude.{ℕ, ◌≡◌, List, [], ◌∷◌, ◌++◌, ◌↔◌, pos, ◌+ℤ◌, Ok, Err, Option, None, Some}
use Rattle.table.specs.declared.answer.Refusal.{Refusal}
use Rattle.edits.specs.Rules.{rule_of, with_rule}
use Rattle.edits.specs.declared.edit.Edit.{Edit}
use Rattle.edits.specs.declared.rule.Rule.{Rule}
use Rattle.forecasts.specs.declared.forecast.Forecast.{Forecast}
use Rattle.forecasts.specs.Forecast.{ask, commit_verdict}
use Rattle.runs.specs.Run.{run, face_number}
use Rattle.runs.specs.RunLaws.{RunLaws}
use Rattle.runs_deeds.specs.Deeds.{Deed, commit, done, deed_reply, edit_in, ran, due_in, counted}

module _ (t : List ℕ) (Ds : List Deed) where
  pub record DeedLaws : Type 0 where
    -- it leaves the table of the plain edits that it counts as, and of these every clause of the third demand holds
    pub as_edits : ran t Ds ≡ run t (counted t Ds)
    pub laws : RunLaws t (counted t Ds)
    -- "the face count is exactly that at the start plus what the rules call for"
    pub count : face_number (ran t Ds) ≡ face_number t +ℤ due_in t Ds
    -- "and every accepted edit answered it", and the rule that its places just before call for: a commit too, wherever in the run it stands
    pub answered : (front : List Deed) (D : Deed) (back : List Deed) → Ds ≡ front ++ D ∷ back
        → (n : ℕ) (m : Option Rule) → deed_reply (ran t front) D ≡ with_rule (Ok n) m
        → (pos n ≡ face_number t +ℤ due_in t (front ++ (D ∷ []))) × (m ≡ rule_of (ran t front) (edit_in D))
    -- "does the edit exactly if the table as it now is would give the same three"
    pub exactly : (front : List Deed) (E : Edit) (f : Forecast) (back : List Deed) → Ds ≡ front ++ commit E f ∷ back
        → (commit_verdict (ran t front) E f ≡ Ok tt) ↔ (ask (ran t front) E ≡ Ok f)
    -- what is turned away, by the edit's own number or as stale, has changed nothing
    pub turned_away : (front : List Deed) (D : Deed) (back : List Deed) → Ds ≡ front ++ D ∷ back
        → (r : Refusal) → deed_reply (ran t front) D ≡ Err r → done (ran t front) D ≡ ran t front
