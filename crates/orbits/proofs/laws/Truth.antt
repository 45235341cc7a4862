-- Deciding: a Boolean is true or false, with the equation in hand; and the first number that passes a test.
--     Truth, truth, clash, false_unless        the two cases of a Boolean
--     both, both_left, both_right, not_both    a conjunction holds exactly if its two parts do
--     same_truth                               two Booleans that imply one another are equal
--     First, first                             among the numbers below n, the first with a property, or that none has it
use Rattle.std.specs.Prelude.{◌≡◌, refl, Bool, true, false, ◌&&◌, ℕ, zero, suc, ◌<◌}
use Rattle.std.proofs.Common.{sym, arith}
use Rattle.std.proofs.Math.Decide.{ℕ_discrete}

pub data Truth (b : Bool) : Type 0 where
  holds : b ≡ true → Truth b
  fails : b ≡ false → Truth b

pub truth : (b : Bool) → Truth b
truth true = holds refl
truth false = fails refl

-- no Boolean is both
pub clash : {b : Bool} → b ≡ true → b ≡ false → ⊥
clash p q =
    let z : ◌≡◌ {A = ℕ} 0 1 = cc in
    omega arith

pub both : {a b : Bool} → a ≡ true → b ≡ true → (a && b) ≡ true
both p q = rw (p, q)

pub both_left : (a b : Bool) → (a && b) ≡ true → a ≡ true
both_left true b e = refl
both_left false true e = e
both_left false false e = e

pub both_right : (a b : Bool) → (a && b) ≡ true → b ≡ true
both_right a true e = refl
both_right true false e = e
both_right false false e = e

-- a Boolean that is not true
pub not_both : (a b : Bool) → ((a ≡ true) → (b ≡ true) → ⊥) → (a && b) ≡ false
not_both true true h = absurd (h refl refl)
not_both true false h = refl
not_both false true h = refl
not_both false false h = refl

pub false_unless : (b : Bool) → (b ≡ true → ⊥) → b ≡ false
false_unless true h = absurd (h refl)
false_unless false h = refl

pub same_truth : (a b : Bool) → (a ≡ true → b ≡ true) → (b ≡ true → a ≡ true) → a ≡ b
same_truth true b h k = sym (h refl)
same_truth false true h k = k refl
same_truth false false h k = refl

-- the first of the numbers below n with P, where P is decided
pub data First (P : ℕ → Type 0) (n : ℕ) : Type 0 where
  found : (k : ℕ) → k < n → P k → ((j : ℕ) → j < k → ¬ P j) → First P n
  none : ((j : ℕ) → j < n → ¬ P j) → First P n

pub first : (P : ℕ → Type 0) → ((k : ℕ) → Dec (P k)) → (n : ℕ) → First P n
first P dec zero = none (λ j h p. omega arith)
first P dec (suc n) = step (first P dec n) (dec n)
  where
    step : First P n → Dec (P n) → First P (suc n)
    step (found k h p least) d = found k (omega arith) p least
    step (none out) (yes p) = found n (omega arith) p out
    step (none out) (no q) =
        none (λ j h. elim (ℕ_discrete j n) [
          | yes e ↦ rw e q
          | no e ↦ out j (omega arith)
        ])
