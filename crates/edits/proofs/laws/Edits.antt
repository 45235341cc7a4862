-- The five edits, document 01, "Edits": the table that each leaves, and its answer. A declined edit leaves every word, and answers its number alone.
use Rattle.std.specs.Prelude.{ℕ, ◌≡◌, List, ℤ, Ok, Err, Result}
use Rattle.std.proofs.Common.{sym, ◌∙◌, ap, SFits, to_z, of_z, to_z-of_z}
use Rattle.std.specs.Int.{w16}
use Rattle.table.specs.Rotation.{rotation}
use Rattle.table.specs.declared.answer.Refusal.{Refusal}
use Rattle.tracing.specs.Listing.{face_count}
use Rattle.edits.specs.declared.edit.Edit.{Edit}
use Rattle.edits.specs.declared.edit.Edit.TheVariants.{InsertEdge, TurnEdge}
use Rattle.edits.specs.Verdicts.{verdict}
use Rattle.edits.specs.declared.rule.Reply.{Reply}
use Rattle.edits.specs.Edits.{written, edited, answer}
use Rattle.edits.specs.Rules.{reply}

module _ (t : List ℕ) (E : Edit) where
  pub edited_passes : verdict t E ≡ Ok tt → edited t E ≡ written t E
  unfolding edited answer
  edited_passes e = rw e

  pub edited_declines : (r : Refusal) → verdict t E ≡ Err r → edited t E ≡ t
  unfolding edited answer
  edited_declines r e = rw e

  pub answer_passes : verdict t E ≡ Ok tt → answer t E ≡ Ok (face_count (rotation (written t E)))
  unfolding answer
  answer_passes e = rw e

  pub answer_declines : (r : Refusal) → verdict t E ≡ Err r → answer t E ≡ Err r
  unfolding answer
  answer_declines r e = rw e

  -- what a call hands over: the verdict, then the write, then the count
  pub went_through : (u : List ℕ) (n : ℕ) → verdict t E ≡ Ok tt → u ≡ written t E → n ≡ face_count (rotation u) → (Ok n ≡ answer t E) × (u ≡ edited t E)
  went_through u n p e f = (ap Ok (f ∙ ap (λ w. face_count (rotation w)) e) ∙ sym (answer_passes p), e ∙ sym (edited_passes p))

  pub was_declined : (r : Refusal) → verdict t E ≡ Err r → (Err r ≡ answer t E) × (t ≡ edited t E)
  was_declined r p = (sym (answer_declines r p), sym (edited_declines r p))

-- an edit that is told by its parts
pub same_edit : (t u : List ℕ) (E F : Edit) (r : Result Reply Refusal) → E ≡ F → (r ≡ reply t F) × (u ≡ edited t F) → (r ≡ reply t E) × (u ≡ edited t E)
same_edit t u E F r e p = rw e p

-- turns and amounts that are handed on keep their values
pub same_insertion : (t u : List ℕ) (E : Edit) (r : Result Reply Refusal) (e c₁ c₂ : ℕ) (k : ℤ) (n : ℕ) → SFits w16 k → E ≡ InsertEdge e c₁ c₂ k n
    → (r ≡ reply t (InsertEdge e c₁ c₂ (to_z w16 (of_z w16 k)) n)) × (u ≡ edited t (InsertEdge e c₁ c₂ (to_z w16 (of_z w16 k)) n)) → (r ≡ reply t E) × (u ≡ edited t E)
same_insertion t u E r e c₁ c₂ k n f p q = same_edit t u E _ r (p ∙ ap (λ z. InsertEdge e c₁ c₂ z n) (sym (to_z-of_z {w = w16} f))) q

pub same_turn : (t u : List ℕ) (E : Edit) (r : Result Reply Refusal) (e : ℕ) (a : ℤ) → SFits w16 a → E ≡ TurnEdge e a
    → (r ≡ reply t (TurnEdge e (to_z w16 (of_z w16 a)))) × (u ≡ edited t (TurnEdge e (to_z w16 (of_z w16 a)))) → (r ≡ reply t E) × (u ≡ edited t E)
same_turn t u E r e a f p q = same_edit t u E _ r (p ∙ ap (TurnEdge e) (sym (to_z-of_z {w = w16} f))) q
