-- Numbers as text: decimal digits in ASCII, from the highest on.
--     decimal_low, decimal_high                   the text of a number of one digit; of more
--     by_digits                                   a fact of every number, from one digit and from one digit more
--     decimal_some, decimal_short, decimal_few    how many digits there are
--     decimal_value                               the text says the number
--     decimal_leads                               no zero in front, unless the number is 0
use Rattle.std.specs.Prelude.{ℕ, zero, suc, ◌+◌, ◌-◌, ◌*◌, ◌/◌, ◌%◌, ◌^◌, ◌<◌, ◌≤◌, ◌≡◌, refl, List, [], ◌∷◌, ◌++◌, ◌≢◌, length, get_or}
use Rattle.std.proofs.Common.{arith, sym, ◌∙◌, ap, length-append, lt-ltb, le-ltb}
use Rattle.std.proofs.Math.Decide.{dec_lt}
use Rattle.std.proofs.Math.ListN.{get_or-append}
use Rattle.text.specs.Decimal.{digit, digits_by, decimal, value_after, value}

digits_low : (k n : ℕ) → n < 10 → digits_by (suc k) n ≡ digit n ∷ []
unfolding digits_by
digits_low k n h = rw (lt-ltb n 10 h, digits_by)

digits_high : (k n : ℕ) → 10 ≤ n → digits_by (suc k) n ≡ digits_by k (n / 10) ++ (digit (n % 10) ∷ [])
unfolding digits_by
digits_high k n h = rw (le-ltb n 10 h, digits_by)

-- steps that are not needed change nothing
digits_enough : (k m n : ℕ) → n < k → n < m → digits_by k n ≡ digits_by m n
digits_enough zero m n h l = absurd (omega arith)
digits_enough (suc k) zero n h l = absurd (omega arith)
digits_enough (suc k) (suc m) n h l = elim (dec_lt n 10) [
  | yes s ↦ digits_low k n s ∙ sym (digits_low m n s)
  | no s ↦
      digits_high k n (omega arith)
      ∙ ap (λ x. x ++ (digit (n % 10) ∷ [])) (digits_enough k m (n / 10) (omega arith) (omega arith))
      ∙ sym (digits_high m n (omega arith))
]

pub decimal_low : (n : ℕ) → n < 10 → decimal n ≡ digit n ∷ []
unfolding decimal
decimal_low n h = digits_low n n h

pub decimal_high : (n : ℕ) → 10 ≤ n → decimal n ≡ decimal (n / 10) ++ (digit (n % 10) ∷ [])
unfolding decimal
decimal_high n h =
    digits_high n n h ∙ ap (λ x. x ++ (digit (n % 10) ∷ [])) (digits_enough n (suc (n / 10)) (n / 10) (omega arith) (omega arith))

-- a fact of every number's digits, from one digit and from one digit more
module _ (P : ℕ → Type 0) (one : (n : ℕ) → n < 10 → P n) (more : (n : ℕ) → 10 ≤ n → P (n / 10) → P n) where
  by_digits_below : (k n : ℕ) → n < k → P n
  by_digits_below zero n h = absurd (omega arith)
  by_digits_below (suc k) n h = elim (dec_lt n 10) [
    | yes s ↦ one n s
    | no s ↦ more n (omega arith) (by_digits_below k (n / 10) (omega arith))
  ]

  pub by_digits : (n : ℕ) → P n
  by_digits n = by_digits_below (suc n) n (omega arith)

-- how long

pub decimal_some : (n : ℕ) → 1 ≤ length (decimal n)
decimal_some = by_digits (λ n. 1 ≤ length (decimal n))
    (λ n h. rw (decimal_low n h) (omega arith))
    (λ n h e. rw (decimal_high n h, length-append) (omega arith))

-- below the power k + 1 of ten, at most k + 1 digits
pub decimal_short : (k n : ℕ) → n < 10 ^ suc k → length (decimal n) ≤ suc k
decimal_short zero n h = rw (decimal_low n (omega arith)) (omega arith)
decimal_short (suc k) n h = elim (dec_lt n 10) [
  | yes s ↦ rw (decimal_low n s) (omega arith)
  | no s ↦
      let few = decimal_short k (n / 10) (omega arith) in
      rw (decimal_high n (omega arith), length-append) (omega arith)
]

-- any number of 64 bits
pub decimal_few : (n : ℕ) → n < 2 ^ 64 → length (decimal n) ≤ 20
decimal_few n h = decimal_short 19 n (omega arith)

value_more : (n : ℕ) (l : List ℕ) (d : ℕ) → value_after n (l ++ (d ∷ [])) ≡ 10 * value_after n l + (d - 48)
unfolding value_after
value_more n [] d = refl
value_more n (x ∷ l) d = value_more (10 * n + (x - 48)) l d

pub decimal_value : (n : ℕ) → value (decimal n) ≡ n
unfolding value_after
decimal_value = by_digits (λ n. value (decimal n) ≡ n)
    (λ n h. rw (decimal_low n h) (omega arith))
    (λ n h e. rw (decimal_high n h) (value_more 0 (decimal (n / 10)) (digit (n % 10)) ∙ omega arith))

-- no zero in front, unless the number is 0
pub decimal_leads : (n : ℕ) → n ≢ 0 → get_or (decimal n) 0 0 ≢ digit 0
decimal_leads = by_digits (λ n. n ≢ 0 → get_or (decimal n) 0 0 ≢ digit 0)
    (λ n h z e. z (let f = rw (decimal_low n h) at e in omega arith))
    (λ n h k z e. k (omega arith) (let some = decimal_some (n / 10) in sym (get_or-append (decimal (n / 10)) (digit (n % 10) ∷ []) 0 0 some) ∙ rw (decimal_high n h) at e))
