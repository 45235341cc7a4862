-- Lists of edits that all go through, one after the other: what is said of each of them, and of the job program's lines.
use Rattle.std.specs.Prelude.{ℕ, suc, ◌≡◌, refl, List, [], ◌∷◌, ◌++◌, Ok}
use Rattle.edits.specs.Verdicts.{verdict}
use Rattle.edits.specs.Edits.{edited}
use Rattle.edits.proofs.laws.Edits.{answer_passes}
use Rattle.edits.specs.declared.edit.Edit.{Edit}
use Rattle.runs.specs.Run.{run}
use Rattle.records.specs.Lines.{edit_line, lines}

-- each edit goes through on the table that those before it leave
pub data Passing : List ℕ → List Edit → Type 0 where
  none : {t : List ℕ} → Passing t []
  more : {t : List ℕ} {E : Edit} {Es : List Edit} → verdict t E ≡ Ok tt → Passing (edited t E) Es → Passing t (E ∷ Es)

pub passing_last : (t : List ℕ) (Es : List Edit) (E : Edit) → Passing t Es → verdict (run t Es) E ≡ Ok tt → Passing t (Es ++ (E ∷ []))
unfolding run
passing_last t [] E none p = more p none
passing_last t (F ∷ Es) E (more q k) p = more q (passing_last (edited t F) Es E k p)

pub passing_at : (t : List ℕ) (front : List Edit) (E : Edit) (back : List Edit) → Passing t (front ++ E ∷ back) → verdict (run t front) E ≡ Ok tt
unfolding run
passing_at t [] E back (more p k) = p
passing_at t (F ∷ front) E back (more p k) = passing_at (edited t F) front E back k

-- an accepted edit prints nothing
pub passing_silent : (t : List ℕ) (n : ℕ) (Es : List Edit) → Passing t Es → lines t n Es ≡ []
unfolding lines edit_line
passing_silent t n [] none = refl
passing_silent t n (E ∷ Es) (more p k) = rw (answer_passes t E p, passing_silent (edited t E) (suc n) Es k)
