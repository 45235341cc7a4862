-- Numbers as text: decimal digits in ASCII, from the highest on.
use Rattle.std.specs.Prelude.{ℕ, zero, suc, ◌+◌, ◌-◌, ◌*◌, ◌/◌, ◌%◌, true, false, List, [], ◌∷◌, ◌++◌, ltb, ℤ, pos, negsuc}

-- the digit d, below 10
abbrev pub digit : ℕ → ℕ
digit d = 48 + d

-- the digits of n, with k steps to find them
unfoldable pub digits_by : ℕ → ℕ → List ℕ
digits_by zero n = []
digits_by (suc k) n = elim (ltb n 10) [ true ↦ digit n ∷ [] | false ↦ digits_by k (n / 10) ++ (digit (n % 10) ∷ []) ]

-- n in decimal, with no zeros in front
unfoldable pub decimal : ℕ → List ℕ
decimal n = digits_by (suc n) n

-- with a minus sign before a negative number
unfoldable pub integer : ℤ → List ℕ
integer (pos n) = decimal n
integer (negsuc n) = 45 ∷ decimal (suc n)

-- read back

-- the number whose digits these are, after those of n
unfoldable pub value_after : ℕ → List ℕ → ℕ
value_after n [] = n
value_after n (d ∷ l) = value_after (10 * n + (d - 48)) l

-- the number whose digits these are
abbrev pub value : List ℕ → ℕ
value l = value_after 0 l
