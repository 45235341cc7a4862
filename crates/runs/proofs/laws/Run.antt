-- A run of edits, document 01, "Runs of edits": any list of the five edits with any arguments, over one table.
use Rattle.std.specs.Prelude.{ℕ, ◌≡◌, refl, List, [], ◌∷◌, ◌++◌}
use Rattle.edits.specs.Edits.{edited}
use Rattle.edits.specs.declared.edit.Edit.{Edit}
use Rattle.runs.specs.Run.{run}

pub run_append : (t : List ℕ) (Es Fs : List Edit) → run t (Es ++ Fs) ≡ run (run t Es) Fs
unfolding run
run_append t [] Fs = refl
run_append t (E ∷ Es) Fs = run_append (edited t E) Es Fs

pub run_one : (t : List ℕ) (E : Edit) → run t (E ∷ []) ≡ edited t E
unfolding run
run_one t E = refl
