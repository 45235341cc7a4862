-- Signed sums and differences: how large they can be.
--     handed                                      a number, as a word of 32 bits hands it on
--     Difference, difference, minus_difference    a − b, below zero or not
--     move, exchange                              summands in another order
--     mag_sum, mag_minus                          bounds on what a machine word is tested by
--     size_sum, size_minus, size_twice            the absolute value
use Rattle.std.specs.Prelude.{ℕ, zero, suc, ◌+◌, ◌-◌, ◌*◌, ◌≤◌, ◌<◌, ◌≡◌, refl, ℤ, pos, negsuc, neg_ℤ, nat_abs, ◌+ℤ◌, ◌-ℤ◌, ◌*ℤ◌}
use Rattle.std.proofs.Common.{arith, sym, ◌∙◌, ap, to_z, of_z, lt-ltb, le-ltb}
use Rattle.std.proofs.Math.Decide.{dec_lt}
use Rattle.std.proofs.Math.IntN.{sub_ℕ, +ℤ_assoc, +ℤ_comm}
use Rattle.std.specs.Int.Signed.{mag}
use Rattle.std.specs.Int.{w32}

-- z, as a word of 32 bits hands it on
abbrev pub handed : ℤ → ℤ
handed z = to_z w32 (of_z w32 z)

-- z is a − b
pub data Difference (a b : ℕ) (z : ℤ) : Type 0 where
  below : a < b → z ≡ negsuc (b - suc a) → Difference a b z
  above : b ≤ a → z ≡ pos (a - b) → Difference a b z

pub difference : (a b : ℕ) → Difference a b (sub_ℕ a b)
difference a b = elim (dec_lt a b) [
  | yes h ↦ below h (rw (lt-ltb a b h))
  | no h ↦ above (omega arith) (rw (le-ltb a b (omega arith)))
]

minus_sub : (a b : ℕ) → pos a -ℤ pos b ≡ sub_ℕ a b
minus_sub a zero = elim (difference a 0) [
  | below h e ↦ absurd (omega arith)
  | above h e ↦ let z : a + 0 ≡ a - 0 = omega arith in ap pos z ∙ sym e
]
minus_sub a (suc b) = refl

pub minus_difference : (a b : ℕ) → Difference a b (pos a -ℤ pos b)
minus_difference a b = rw (minus_sub a b) (difference a b)

-- summands in another order

pub move : (a b c : ℤ) → a +ℤ b +ℤ c ≡ a +ℤ c +ℤ b
move a b c = +ℤ_assoc a b c ∙ ap (λ z. a +ℤ z) (+ℤ_comm b c) ∙ sym (+ℤ_assoc a c b)

pub exchange : (a b c d : ℤ) → (a +ℤ b) +ℤ (c +ℤ d) ≡ (a +ℤ c) +ℤ (b +ℤ d)
exchange a b c d = sym (+ℤ_assoc (a +ℤ b) c d) ∙ ap (λ z. z +ℤ d) (move a b c) ∙ +ℤ_assoc (a +ℤ c) b d

-- bounds on the magnitude of a word

mag_difference : (a b : ℕ) → mag (sub_ℕ a b) ≤ a + b
mag_difference a b = elim (difference a b) [
  | below h e ↦ rw e (omega arith)
  | above h e ↦ rw e (omega arith)
]

pub mag_sum : (x y : ℤ) → mag (x +ℤ y) ≤ suc (mag x + mag y)
mag_sum (pos a) (pos b) = omega arith
mag_sum (pos a) (negsuc b) = let m = mag_difference a (suc b) in omega arith
mag_sum (negsuc a) (pos b) = let m = mag_difference b (suc a) in omega arith
mag_sum (negsuc a) (negsuc b) = omega arith

pub mag_minus : (a b k : ℕ) → a < k → b < k → mag (pos a -ℤ pos b) < k
mag_minus a b k h l = elim (minus_difference a b) [
  | below m q ↦ rw q (omega arith)
  | above m q ↦ rw q (omega arith)
]

-- bounds on the absolute value

size_difference : (a b : ℕ) → nat_abs (sub_ℕ a b) ≤ a + b
size_difference a b = elim (difference a b) [
  | below h e ↦ rw e (omega arith)
  | above h e ↦ rw e (omega arith)
]

pub size_sum : (x y : ℤ) → nat_abs (x +ℤ y) ≤ nat_abs x + nat_abs y
size_sum (pos a) (pos b) = omega arith
size_sum (pos a) (negsuc b) = size_difference a (suc b)
size_sum (negsuc a) (pos b) = let d = size_difference b (suc a) in omega arith
size_sum (negsuc a) (negsuc b) = omega arith

size_negative : (n : ℕ) → nat_abs (neg_ℤ (pos n)) ≡ n
size_negative zero = refl
size_negative (suc n) = refl

pub size_minus : (x : ℤ) → nat_abs (neg_ℤ x) ≡ nat_abs x
size_minus (pos n) = size_negative n
size_minus (negsuc n) = refl

pub size_twice : (x : ℤ) → nat_abs (pos 2 *ℤ x) ≡ 2 * nat_abs x
size_twice (pos n) = refl
size_twice (negsuc n) = size_negative (2 * suc n)
