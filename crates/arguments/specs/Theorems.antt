-- The theorems of this crate. Each is proved by the law of its name.
use Rattle.std.specs.Prelude.{ℕ, ◌≤◌, ◌≡◌, List, Some}
use Rattle.text.specs.Decimal.{decimal}
use Rattle.arguments.specs.Arguments.{number_in}
use Rattle.arguments.specs.laws.Reading as reading

-- a number's own text is read as the number, wherever the bound lets it through
pub number_decimal : (n most : ℕ) → n ≤ most → number_in (decimal n) most ≡ Some n
number_decimal = reading.number_decimal

-- what is read is no more than the bound
pub number_within : (s : List ℕ) (most n : ℕ) → number_in s most ≡ Some n → n ≤ most
number_within = reading.number_within
