-- How many numbers below n pass a test: one more (`more_if`) for each that does.
use Rattle.std.specs.Prelude.{◌≡◌, Bool, true, false, ℕ, zero, suc, ◌<◌}

abbrev pub more_if : Bool → ℕ → ℕ
more_if true n = suc n
more_if false n = n

unfoldable pub count : (ℕ → Bool) → ℕ → ℕ
count p zero = zero
count p (suc n) = more_if (p n) (count p n)

-- a partner of i among the numbers below m that pass q
pub record Partner (G : ℕ → ℕ → Type 0) (q : ℕ → Bool) (m i : ℕ) : Type 0 where
  pub to : ℕ
  pub low : to < m
  pub pass : q to ≡ true
  pub pair : G i to
