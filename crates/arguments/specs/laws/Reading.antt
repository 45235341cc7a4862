-- What the reading of a number knows at its loop's head, and each of its ends.
--     Reading, reading_more                                         the first i bytes are digits, and n is their number
--     empty_nothing, reading_below, reading_above, reading_large    no number: no byte, a byte that is no digit, too large
--     reading_all                                                   the number that is read
--     number_within                                                 it is no more than the bound
--     number_decimal                                                the decimal text of a number is read as that number
use Rattle.std.specs.Prelude.{ℕ, suc, ◌+◌, ◌-◌, ◌*◌, ◌≤◌, ◌<◌, ◌≡◌, refl, Bool, true, false, cond, ◌&&◌, leb, get_or, Some, None}
use native.Mathlib.Omega.{arith}
use Rattle.std.proofs.Common.{add-one, ◌∙◌, drop-cons}
use Rattle.std.proofs.Math.Path.{sym, ap}
use Rattle.std.proofs.Math.Bool.{and-false}
use mathlib.Core.List.{List, []}
use Rattle.std.proofs.Math.ListN.{length, drop}
use Rattle.std.proofs.Math.Seq.{drop-length}
use borrow.Author.Tests.{leb-true, le-leb, lt-leb}
use Rattle.text.specs.Decimal.{value, value_after, decimal}
use Rattle.text.specs.laws.Decimal.{decimal_some, decimal_value}
use Rattle.arguments.specs.Arguments.{is_digit, all_digits, numeral, number_in}
use Rattle.arguments.specs.laws.Digits.{digit_is, digit_below, digit_above, value_grows, decimal_digits}

-- the four answers

module _ (s : List ℕ) (most : ℕ) where
  pub empty_nothing : length s < 1 → None ≡ number_in s most
  unfolding number_in
  empty_nothing h = rw (lt-leb 1 (length s) h)

  stray_nothing : 1 ≤ length s → all_digits s ≡ false → None ≡ number_in s most
  unfolding number_in
  stray_nothing h e = rw (le-leb 1 (length s) h, e)

  large_nothing : most < value s → None ≡ number_in s most
  unfolding number_in
  large_nothing h = rw (lt-leb (value s) most h, and-false)

  all_number : 1 ≤ length s → all_digits s ≡ true → value s ≤ most → number_in s most ≡ Some (value s)
  unfolding number_in
  all_number h e l = rw (le-leb 1 (length s) h, e, le-leb (value s) most l)

-- the first i bytes are digits, and n is their number
pub record Reading (s : List ℕ) (most n i : ℕ) : Type 0 where
  pub within : i ≤ length s
  pub digits : all_digits s ≡ all_digits (drop i s)
  pub number : value s ≡ value_after n (drop i s)
  pub low : n ≤ most

module _ {s : List ℕ} {most n i : ℕ} (k : Reading s most n i) where
  -- one byte more
  module _ (h : i < length s) where
    next_digits : all_digits s ≡ (is_digit (get_or s i 0) && all_digits (drop (suc i) s))
    unfolding all_digits
    next_digits = k.digits ∙ ap all_digits (drop-cons s i 0 h)

    next_number : value s ≡ value_after (10 * n + (get_or s i 0 - 48)) (drop (suc i) s)
    unfolding value_after
    next_number = k.number ∙ ap (value_after n) (drop-cons s i 0 h)

    pub reading_below : get_or s i 0 < 48 → None ≡ number_in s most
    reading_below l = stray_nothing s most (omega arith) (next_digits ∙ rw (digit_below (get_or s i 0) l))

    pub reading_above : 57 < get_or s i 0 → None ≡ number_in s most
    reading_above l = stray_nothing s most (omega arith) (next_digits ∙ rw (digit_above (get_or s i 0) l))

    pub reading_large : most < 10 * n + (get_or s i 0 - 48) → None ≡ number_in s most
    reading_large l =
        let more = value_grows (10 * n + (get_or s i 0 - 48)) (drop (suc i) s) in
        let all = next_number in
        large_nothing s most (omega arith)

    pub reading_more : 48 ≤ get_or s i 0 → get_or s i 0 ≤ 57 → 10 * n + (get_or s i 0 - 48) ≤ most → Reading s most (10 * n + (get_or s i 0 - 48)) (i + 1)
    reading_more a b l = record {
      within = omega arith;
      digits = next_digits ∙ rw (digit_is (get_or s i 0) a b, add-one);
      number = next_number ∙ rw add-one;
      low = l;
    }

  pub reading_all : length s ≤ i → 1 ≤ length s → Some n ≡ number_in s most
  unfolding all_digits value_after
  reading_all l some =
      let within = k.within in
      let end : i ≡ length s = omega arith in
      let rest : drop i s ≡ [] = rw end (drop-length s) in
      let number : value s ≡ n = k.number ∙ ap (value_after n) rest in
      let low = k.low in
      ap Some (sym number) ∙ sym (all_number s most some (k.digits ∙ ap all_digits rest) (omega arith))

-- what is read is no more than the bound
pub number_within : (s : List ℕ) (most n : ℕ) → number_in s most ≡ Some n → n ≤ most
unfolding number_in
number_within s most n e = by (numeral s) (leb (value s) most) refl e
  where
    by : (a b : Bool) → leb (value s) most ≡ b → cond (a && b) (Some (value s)) None ≡ Some n → n ≤ most
    by true true l e = let low = leb-true (value s) most l in let same : value s ≡ n = cc in omega arith
    by true false l e = let z : ◌≡◌ {A = ℕ} 0 1 = cc in omega arith
    by false b l e = let z : ◌≡◌ {A = ℕ} 0 1 = cc in omega arith

-- the decimal text of a number
pub number_decimal : (n most : ℕ) → n ≤ most → number_in (decimal n) most ≡ Some n
number_decimal n most h =
    let same = decimal_value n in
    all_number (decimal n) most (decimal_some n) (decimal_digits n) (omega arith) ∙ ap Some same
