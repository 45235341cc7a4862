-- A slice as a window on a text: `from` is the place in the text where the slice begins.
-- What is written at a place that the slice does not show changes nothing.
use Rattle.std.specs.Prelude.{ℕ, suc, ◌-◌, ◌+◌, cond, List, [], ◌∷◌, leb, set, length, ◌≡◌}

-- `out` with the byte b at place `at` of the text; a place before the window or past its end is not stored
unfoldable pub put : ℕ → ℕ → List ℕ → ℕ → List ℕ
put from at out b = cond (leb from at) (set out (at - from) b) out

-- `out` with the bytes of the text, one after the other, from place `at` on
unfoldable pub paste : ℕ → ℕ → List ℕ → List ℕ → List ℕ
paste from at out [] = out
paste from at out (b ∷ text) = paste from (suc at) (put from at out b) text

-- the text stands from place `at` on, and r is the place after it
pub record Pasted (from at : ℕ) (out text : List ℕ) (r : ℕ) (out' : List ℕ) : Type 0 where
  pub end : r ≡ at + length text
  pub shows : out' ≡ paste from at out text
