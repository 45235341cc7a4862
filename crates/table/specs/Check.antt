-- Whether a table is good is decided: `good?` is read off the decision that laws/Decided makes, and the theorem `good_says` states
-- that it is true exactly if the table is good; nothing else has to be known of it.
use Rattle.std.specs.Prelude.{ℕ, Bool, true, false, List, Ok, Err}
use Rattle.table.specs.declared.answer.Refusal.TheVariants.{Torn}
use Rattle.table.specs.laws.Decided.{good_dec}
use Rattle.table.specs.Answers.{unless, Answer}

abbrev pub decided : {P : Type 0} → Dec P → Bool
decided (yes p) = true
decided (no n) = false

unfoldable pub good? : List ℕ → Bool
good? t = decided (good_dec t)

-- what the check answers
abbrev pub check_of : List ℕ → Answer
check_of t = unless (good? t) (Err Torn) (Ok 0)
