-- The sign and the size of a number in a signed word of 32 bits, as the code finds them.
--     negative_text, positive_text        the text of a number below zero; of another
--     integer_few                         at most ten digits and a sign
--     signed_negative, signed_positive    the text as it is written
use Rattle.std.specs.Prelude.{ℕ, suc, ◌≤◌, ◌≡◌, refl, true, false, List, [], ◌∷◌, length, ℤ, pos, negsuc, nat_abs}
use Rattle.std.proofs.Common.{arith, sym, ◌∙◌, ap, ltb-true, SFits, to_z, of_z, to_z-of_z}
use Rattle.std.specs.Int.Signed.{lt_z}
use Rattle.std.specs.Int.{w32}
use Rattle.text.specs.laws.Paste.{pasted_then, pasted_as}
use Rattle.text.specs.Decimal.{decimal, integer}
use Rattle.text.specs.laws.Decimal.{decimal_short}
use Rattle.text.specs.Paste.{Pasted}

-- what the tests of the sign say

never_below : {A : Type 0} (n : ℕ) → lt_z (pos n) (pos 0) ≡ true → A
never_below n h = absurd (let l = ltb-true n 0 h in omega arith)

always_below : {A : Type 0} (n : ℕ) → lt_z (negsuc n) (pos 0) ≡ false → A
always_below n h = absurd (let z : ◌≡◌ {A = ℕ} 0 1 = cc in omega arith)

pub negative_text : (z : ℤ) → lt_z z (pos 0) ≡ true → integer z ≡ 45 ∷ decimal (nat_abs z)
unfolding integer
negative_text (pos n) h = never_below n h
negative_text (negsuc n) h = refl

pub positive_text : (z : ℤ) → lt_z z (pos 0) ≡ false → integer z ≡ decimal (nat_abs z)
unfolding integer
positive_text (pos n) h = refl
positive_text (negsuc n) h = always_below n h

-- at most ten digits and a sign
pub integer_few : {z : ℤ} → SFits w32 z → length (integer z) ≤ 11
unfolding integer
integer_few {z = pos n} f = let l = f.sfits in let few = decimal_short 9 n (omega arith) in omega arith
integer_few {z = negsuc n} f = let l = f.sfits in let few = decimal_short 9 (suc n) (omega arith) in omega arith

module _ {z : ℤ} (f : SFits w32 z) where
  handed_size : nat_abs (to_z w32 (of_z w32 z)) ≡ nat_abs z
  handed_size = ap nat_abs (to_z-of_z f)

  -- the text, by the test of the sign

  pub signed_negative : {from at n r r' : ℕ} {out out' out'' : List ℕ} → lt_z (to_z w32 (of_z w32 z)) (to_z w32 0) ≡ true → n ≡ nat_abs (to_z w32 (of_z w32 z))
      → Pasted from at out (45 ∷ []) r out' → Pasted from r out' (decimal n) r' out'' → Pasted from at out (integer z) r' out''
  signed_negative h e p q =
      pasted_as (pasted_then p q) (ap (λ k. 45 ∷ decimal k) (e ∙ handed_size) ∙ sym (negative_text z (rw (to_z-of_z f) at h)))

  pub signed_positive : {from at n r : ℕ} {out out' : List ℕ} → lt_z (to_z w32 (of_z w32 z)) (to_z w32 0) ≡ false → n ≡ nat_abs (to_z w32 (of_z w32 z))
      → Pasted from at out (decimal n) r out' → Pasted from at out (integer z) r out'
  signed_positive h e p = pasted_as p (ap decimal (e ∙ handed_size) ∙ sym (positive_text z (rw (to_z-of_z f) at h)))
