-- The exchange of two values, and the mirrored exchange, of two values and of those at their opposites.
--     tr, exch         x and y exchanged; f after it
--     tr2, exch2       the same with a mirror m
use Rattle.std.specs.Prelude.{ℕ, cond, eqb}

unfoldable pub tr : ℕ → ℕ → ℕ → ℕ
tr x y i = cond (eqb i x) y (cond (eqb i y) x i)

unfoldable pub exch : (ℕ → ℕ) → ℕ → ℕ → ℕ → ℕ
exch f x y i = f (tr x y i)

-- x and y exchanged, and their opposites
unfoldable pub tr2 : (ℕ → ℕ) → (ℕ → ℕ) → ℕ → ℕ → ℕ → ℕ
tr2 f m x y i = tr x y (tr (m (f x)) (m (f y)) i)

unfoldable pub exch2 : (ℕ → ℕ) → (ℕ → ℕ) → ℕ → ℕ → ℕ → ℕ
exch2 f m x y = exch (exch f x y) (m (f x)) (m (f y))
