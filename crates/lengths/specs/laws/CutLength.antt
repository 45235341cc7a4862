-- The ends of the call for a cut length.
use Rattle.std.specs.Prelude.{ℕ, ◌≡◌, List, Ok, Err}
use Rattle.std.proofs.Common.{sym, ◌∙◌, ap}
use Rattle.table.specs.declared.answer.Refusal.{Refusal}
use Rattle.weave.specs.Calls.{named_step, Named}
use Rattle.lengths.specs.CutLength.{cut_length, cut_length_by, cut_length_of}

module _ (t : List ℕ) (d k : ℕ) {n : Named} (e : n ≡ named_step t d k) where
  pub cut_refused : {r : Refusal} → n ≡ Err r → Err r ≡ cut_length_of t d k
  cut_refused f = sym (ap (cut_length_by t) (sym e ∙ f))

  pub cut_along : {s m : ℕ} → n ≡ Ok s → m ≡ cut_length t s → Ok m ≡ cut_length_of t d k
  cut_along {s} f g = ap Ok g ∙ sym (ap (cut_length_by t) (sym e ∙ f))
