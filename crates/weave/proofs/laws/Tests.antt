-- Whether a step of a walk passes a test, by the number of those that do.
--     some_total    one of a list passes a test exactly if their number is not 0
use Rattle.std.specs.Prelude.{ℕ, ◌+◌, ◌≡◌, refl, Bool, true, false, ◌||◌, List, [], ◌∷◌, ltb}
use Rattle.std.proofs.Common.{arith, sym, ◌∙◌, ap, lt-ltb}
use Rattle.tracing.specs.Listing.{bit}
use Rattle.tracing.specs.Met.{total}
use Rattle.weave.specs.Ribbon.{some}

-- one passes exactly if a number of them does
pub some_total : (q : ℕ → Bool) (l : List ℕ) → some q l ≡ ltb 0 (total (λ x. bit (q x)) l)
unfolding some total
some_total q [] = refl
some_total q (x ∷ l) = by (q x) (total (λ y. bit (q y)) l) (some_total q l)
  where
    by : (b : Bool) (n : ℕ) {c : Bool} → c ≡ ltb 0 n → (b || c) ≡ ltb 0 (bit b + n)
    by true n e = sym (lt-ltb 0 (1 + n) (omega arith))
    by false n e = let rest : n ≡ 0 + n = omega arith in e ∙ ap (ltb 0) rest
