-- A number in the bytes of an argument, in decimal.
--     numeral      bytes that are one or more digits
--     number_in     the number that they are, if it is at most a bound
use Rattle.std.specs.Prelude.{ℕ, Bool, true, cond, ◌&&◌, List, [], ◌∷◌, leb, length, Option, Some, None}
use Rattle.text.specs.Decimal.{value}

-- 48 is "0", 57 is "9"
abbrev pub is_digit : ℕ → Bool
is_digit b = leb 48 b && leb b 57

unfoldable pub all_digits : List ℕ → Bool
all_digits [] = true
all_digits (b ∷ s) = is_digit b && all_digits s

-- no sign and no blank; zeros may lead
abbrev pub numeral : List ℕ → Bool
numeral s = leb 1 (length s) && all_digits s

unfoldable pub number_in : List ℕ → ℕ → Option ℕ
number_in s most = cond (numeral s && leb (value s) most) (Some (value s)) None
