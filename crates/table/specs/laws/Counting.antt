-- What a part of the check answers: how many darts it went over, if a rule holds, or that the rule is broken.
use Rattle.std.specs.Prelude.{ℕ, ◌≡◌}
use Rattle.std.proofs.Common.{arith}
use Rattle.std.specs.Prelude.{Option, Some, None}

pub data Counts (Rule : Type 0) (n : ℕ) (r : Option ℕ) : Type 0 where
  counts : r ≡ Some n → Rule → Counts Rule n r
  breaks : r ≡ None → (Rule → ⊥) → Counts Rule n r

pub counts_broken : {Rule : Type 0} {n : ℕ} {r : Option ℕ} → Counts Rule n r → r ≡ None → Rule → ⊥
counts_broken (counts e h) b h' = let z : ◌≡◌ {A = ℕ} 0 1 = cc in omega arith
counts_broken (breaks e n) b h = n h

pub counts_some : {Rule : Type 0} {n : ℕ} {r : Option ℕ} (k : ℕ) → Counts Rule n r → r ≡ Some k → (k ≡ n) × Rule
counts_some k (counts e h) b = (cc, h)
counts_some k (breaks e n) b = let z : ◌≡◌ {A = ℕ} 0 1 = cc in absurd (omega arith)
