-- Runs that hold commits beside plain edits, document 02, request b: any list of them, with any forecasts, over one table.
--     Deed                           a plain edit, or a commit with its three answers
--     done, deed_reply, edit_in      the table that a deed leaves; its answer; its edit
--     ran                            the table after the run
--     due, due_in                    what the rules call for, of a deed; in the whole run
--     counts_as, counts_by, counted  the plain edits that a deed counts as; and the run
use Rattle.table.specs.declared.answer.Refusal.{Refusal}
use Rattle.edits.specs.Verdicts.{Verdict}
use Rattle.std.specs.Prelude.{ℕ, List, [], ◌∷◌, ◌++◌, ℤ, pos, ◌+ℤ◌, Ok, Err, Result}
use Rattle.edits.specs.Edits.{edited}
use Rattle.edits.specs.Changes.{change}
use Rattle.edits.specs.Rules.{reply}
use Rattle.edits.specs.declared.edit.Edit.{Edit}
use Rattle.edits.specs.declared.rule.Reply.{Reply}
use Rattle.forecasts.specs.declared.forecast.Forecast.{Forecast}
use Rattle.forecasts.specs.Forecast.{commit_verdict, commit_reply, committed}
use Rattle.runs.specs.Run.{calls_by, calls}

-- a plain edit, or "the edit and those three answers"
pub data Deed : Type 0 where
  edit : Edit → Deed
  commit : Edit → Forecast → Deed

abbrev pub done : List ℕ → Deed → List ℕ
done t (edit E) = edited t E
done t (commit E f) = committed t E f

abbrev pub deed_reply : List ℕ → Deed → Result Reply Refusal
deed_reply t (edit E) = reply t E
deed_reply t (commit E f) = commit_reply t E f

abbrev pub edit_in : Deed → Edit
edit_in (edit E) = E
edit_in (commit E f) = E

-- "Other edits in between are allowed": each deed gets the table as the last one left it
unfoldable pub ran : List ℕ → List Deed → List ℕ
ran t [] = t
ran t (D ∷ Ds) = ran (done t D) Ds

-- "a commit that goes through .. counts as that edit in a run"; one that is turned away counts 0, as a declined edit does
abbrev pub due : List ℕ → Deed → ℤ
due t (edit E) = calls t E
due t (commit E f) = calls_by (commit_verdict t E f) (change t E)

unfoldable pub due_in : List ℕ → List Deed → ℤ
due_in t [] = pos 0
due_in t (D ∷ Ds) = due t D +ℤ due_in (done t D) Ds

-- the run of plain edits that it counts as: without the commits that are turned away
abbrev pub counts_by : Verdict → Edit → List Edit
counts_by (Ok tt) E = E ∷ []
counts_by (Err r) E = []

abbrev pub counts_as : List ℕ → Deed → List Edit
counts_as t (edit E) = E ∷ []
counts_as t (commit E f) = counts_by (commit_verdict t E f) E

unfoldable pub counted : List ℕ → List Deed → List Edit
counted t [] = []
counted t (D ∷ Ds) = counts_as t D ++ counted (done t D) Ds
