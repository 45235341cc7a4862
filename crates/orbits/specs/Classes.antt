-- The number of classes of a decided equivalence below N: how many numbers are least in their class. Only the classes
-- of live numbers are counted, where `live` is any test that is constant on classes.
--     Partition                  R is an equivalence below N, and the test r decides it
--     least, head, classes       no smaller number is in the class; live and least; how many
use Rattle.std.specs.Prelude.{◌≡◌, Bool, true, ◌&&◌, ℕ, zero, ◌<◌, eqb}
use Rattle.orbits.specs.Count.{count}

pub record Partition (N : ℕ) (R : ℕ → ℕ → Type 0) (r : ℕ → ℕ → Bool) : Type 0 where
  pub self : (i : ℕ) → i < N → R i i
  pub flip : (i j : ℕ) → i < N → j < N → R i j → R j i
  pub join : (i j k : ℕ) → i < N → j < N → k < N → R i j → R j k → R i k
  pub says : (i j : ℕ) → i < N → j < N → R i j → r i j ≡ true
  pub means : (i j : ℕ) → i < N → j < N → r i j ≡ true → R i j

unfoldable pub least : (ℕ → ℕ → Bool) → ℕ → Bool
least r i = eqb (count (r i) i) zero

unfoldable pub head : (ℕ → ℕ → Bool) → (ℕ → Bool) → ℕ → Bool
head r live i = live i && least r i

unfoldable pub classes : (ℕ → ℕ → Bool) → ℕ → (ℕ → Bool) → ℕ
classes r N live = count (head r live) N
