-- A call that writes an output to the front of a lent slice, document 01, "When a call declines": torn, then a slice shorter than
-- "the output's exact size". The output may be of any kind of word.
use Rattle.std.specs.Prelude.{ℕ, ◌≡◌, List, ◌++◌, leb, length, drop, Ok, Err}
use Rattle.table.specs.Check.{good?}
use Rattle.table.specs.declared.answer.Refusal.TheVariants.{Torn, ShortSlice}
use Rattle.table.specs.Answers.{unless, if_done, Answer}

-- "An accepted call changes nothing past its output's exact size."
abbrev pub front : {A : Type 0} → List A → List A → List A
front text out = text ++ drop (length text) out

-- what a call answers that writes `text` of table t to a slice of n words
unfoldable pub output_answer : {A : Type 0} → List ℕ → List A → ℕ → Answer
output_answer t text n = unless (good? t) (Err Torn) (unless (leb (length text) n) (Err ShortSlice) (Ok (length text)))

-- what it leaves in the slice
unfoldable pub output_out : {A : Type 0} → List ℕ → List A → List A → List A
output_out t text out = if_done (output_answer t text (length out)) (front text out) out

-- what an accepted call of table t answers and leaves: the size of `text`, and `text` at the front of the slice
pub record Accepted {A : Type 0} (a : Answer) (text out out' : List A) : Type 0 where
  pub size : (n : ℕ) → a ≡ Ok n → n ≡ length text
  pub words : (n : ℕ) → a ≡ Ok n → out' ≡ front text out
