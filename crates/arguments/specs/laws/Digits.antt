-- Digits: what is added to the number of the first ones makes it no smaller, and the decimal text of a number has nothing else.
use Rattle.std.specs.Prelude.{ℕ, ◌+◌, ◌-◌, ◌*◌, ◌%◌, ◌≤◌, ◌<◌, ◌≡◌, refl, true, false, ◌&&◌, List, [], ◌∷◌, ◌++◌}
use Rattle.std.proofs.Common.{arith, sym, le-leb}
use Rattle.std.proofs.Math.Bool.{and_assoc}
use Rattle.std.proofs.lemmas.Bool.{lt-leb}
use Rattle.text.specs.Decimal.{digit, decimal, value_after}
use Rattle.text.specs.laws.Decimal.{decimal_low, decimal_high, by_digits}
use Rattle.arguments.specs.Arguments.{is_digit, all_digits}

-- one byte

pub digit_is : (b : ℕ) → 48 ≤ b → b ≤ 57 → is_digit b ≡ true
digit_is b h l = rw (le-leb 48 b h, le-leb b 57 l)

pub digit_below : (b : ℕ) → b < 48 → is_digit b ≡ false
digit_below b h = rw (lt-leb 48 b h)

pub digit_above : (b : ℕ) → 57 < b → is_digit b ≡ false
digit_above b h = rw (le-leb 48 b (omega arith), lt-leb b 57 h)

-- some bytes

pub value_grows : (n : ℕ) (s : List ℕ) → n ≤ value_after n s
unfolding value_after
value_grows n [] = omega arith
value_grows n (b ∷ s) = let more = value_grows (10 * n + (b - 48)) s in omega arith

all_append : (s t : List ℕ) → all_digits (s ++ t) ≡ (all_digits s && all_digits t)
unfolding all_digits
all_append [] t = refl
all_append (b ∷ s) t = rw (all_append s t) (sym (and_assoc (is_digit b) (all_digits s) (all_digits t)))

-- the digits of n, from one digit on
pub decimal_digits : (n : ℕ) → all_digits (decimal n) ≡ true
unfolding all_digits
decimal_digits = by_digits (λ n. all_digits (decimal n) ≡ true)
    (λ n h. rw (decimal_low n h, digit_is (digit n) (omega arith) (omega arith)))
    (λ n h e. rw (decimal_high n h, all_append, e, digit_is (digit (n % 10)) (omega arith) (omega arith)))
