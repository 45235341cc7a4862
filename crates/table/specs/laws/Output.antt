-- A call that writes an output to the front of a lent slice, document 01, "When a call declines": torn, then a slice shorter than
-- "the output's exact size". The output may be of any kind of word.
--     sets_append, sets_front                               text stored piece by piece; stored from 0 on, it is at the front
--     output_torn, output_short, output_done                the three ends of such a call: 1, 7, or the output's size
--     output_accepted, declined_accepted, sized_accepted    an accepted call wrote the text to the front, and answers its length
--     done_same, done_declined                              two numbers answered are one; a refusal is no number
use Rattle.std.specs.Prelude.{ℕ, suc, ◌+◌, ◌<◌, ◌≤◌, ◌≡◌, refl, Bool, true, false, List, [], ◌∷◌, ◌++◌, leb, length, set, Ok, Err}
use Rattle.std.proofs.Common.{arith, add-zero, zero-add, ◌∙◌, ap}
use Rattle.std.proofs.lemmas.List.Edits.{sets, sets-eq}
use borrow.Author.Tests.{le-leb, lt-leb}
use Rattle.table.specs.Check.{good?}
use Rattle.table.specs.declared.answer.Refusal.{Refusal}
use Rattle.table.specs.declared.answer.Refusal.TheVariants.{Torn, ShortSlice}
use Rattle.table.specs.Output.{front, output_answer, output_out, Accepted}
use Rattle.table.specs.Answers.{unless, if_done, Answer}

-- text that is stored word by word

pub sets_append : {A : Type 0} (l : List A) (i : ℕ) (a b : List A) → sets l i (a ++ b) ≡ sets (sets l i a) (i + length a) b
sets_append l i [] b = rw add-zero
sets_append l i (x ∷ a) b = sets_append (set l i x) (suc i) a b ∙ ap (λ k. sets (sets (set l i x) (suc i) a) k b) (omega arith)

pub sets_front : {A : Type 0} (text out : List A) → length text ≤ length out → sets out 0 text ≡ front text out
sets_front text out h = sets-eq text out 0 (rw zero-add h) ∙ rw zero-add

-- the three ends of such a call

module _ {A : Type 0} (t : List ℕ) (text out : List A) where
  pub output_torn : good? t ≡ false → (Err Torn ≡ output_answer t text (length out)) × (out ≡ output_out t text out)
  unfolding output_answer output_out
  output_torn g = rw g (refl, refl)

  pub output_short : good? t ≡ true → length out < length text → (Err ShortSlice ≡ output_answer t text (length out)) × (out ≡ output_out t text out)
  unfolding output_answer output_out
  output_short g h = rw (g, lt-leb (length text) (length out) h) (refl, refl)

  pub output_done : {n : ℕ} {out' : List A} → good? t ≡ true → n ≡ length text → length text ≤ length out → out' ≡ front text out
      → (Ok n ≡ output_answer t text (length out)) × (out' ≡ output_out t text out)
  unfolding output_answer output_out
  output_done g e h w = rw (g, le-leb (length text) (length out) h) (ap Ok e, w)

pub done_same : {n m : ℕ} → ◌≡◌ {A = Answer} (Ok m) (Ok n) → n ≡ m
done_same e = cc

pub done_declined : {n : ℕ} {r : Refusal} → ◌≡◌ {A = Answer} (Err r) (Ok n) → ⊥
done_declined e = let z : ◌≡◌ {A = ℕ} 0 1 = cc in omega arith

pub declined_accepted : {A : Type 0} (r : Refusal) (text out : List A) → Accepted (Err r) text out out
declined_accepted r text out = record { size = λ n e. absurd (done_declined e); words = λ n e. absurd (done_declined e) }

-- a call that is left with the test of its output's size
pub sized_accepted : {A : Type 0} (b : Bool) (text out : List A) → let a = unless b (Err ShortSlice) (Ok (length text)) in Accepted a text out (if_done a (front text out) out)
sized_accepted true text out = record { size = λ n e. done_same e; words = λ n e. refl }
sized_accepted false text out = declined_accepted ShortSlice text out

pub output_accepted : {A : Type 0} (t : List ℕ) (text out : List A) → Accepted (output_answer t text (length out)) text out (output_out t text out)
unfolding output_answer output_out
output_accepted t text out = by (good? t)
  where
    by : (b : Bool) → let a = unless b (Err Torn) (unless (leb (length text) (length out)) (Err ShortSlice) (Ok (length text))) in Accepted a text out (if_done a (front text out) out)
    by true = sized_accepted (leb (length text) (length out)) text out
    by false = declined_accepted Torn text out
