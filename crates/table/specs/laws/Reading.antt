-- What keeps count, over reads one after the other.
--     adds_none    nothing is read
--     adds_more    k words are read, and then l words
use Rattle.std.specs.Prelude.{ℕ, ◌+◌}
use Rattle.std.proofs.Common.{arith, add-zero, add_assoc}
use Rattle.table.specs.Reading.{Adds}

module _ {C : Type 0} {S : C → ℕ → Type 0} where
  pub adds_none : {c : C} → Adds S c c 0
  adds_none = record { told = λ n h s. rw add-zero s }

  pub adds_more : {a b c : C} {k l : ℕ} → Adds S a b k → Adds S b c l → Adds S a c (k + l)
  adds_more {k = k} {l} p q = record { told = λ n h s. rw (add_assoc n k l) at (q.told (n + k) (omega arith) (p.told n (omega arith) s)) }
