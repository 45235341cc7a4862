-- Whether a table is good is decided: `good?` is the Boolean, and it is true exactly if the table is good.
use Rattle.std.specs.Prelude.{ℕ, ◌≡◌, refl, Bool, true, false, List}
use Rattle.std.proofs.Common.{sym, ◌∙◌}
use Rattle.table.specs.Good.{Good}
use Rattle.table.specs.laws.Rotation.{Case, case_yes, case_says, case_denies, holds, fails}
use Rattle.table.specs.laws.Decided.{good_dec}
use Rattle.table.specs.Check.{decided, good?}

pub good_case : (t : List ℕ) → Case (good? t) (Good t)
unfolding good?
good_case t = at (good_dec t)
  where
    at : (d : Dec (Good t)) → Case (decided d) (Good t)
    at (yes g) = holds refl g
    at (no n) = fails refl n

module _ (t : List ℕ) where
  pub good_yes : Good t → true ≡ good? t
  good_yes g = sym (case_says (good_case t) g)

  pub good_no : (Good t → ⊥) → false ≡ good? t
  good_no n = sym (case_denies (good_case t) n)

-- what an answer of the test tells
pub seen_good : (t : List ℕ) {b : Bool} → b ≡ good? t → b ≡ true → (good? t ≡ true) × Good t
seen_good t e s =
    let g : good? t ≡ true = sym e ∙ s in
    (g, case_yes (good_case t) g)

pub seen_torn : (t : List ℕ) {b : Bool} → b ≡ good? t → b ≡ false → good? t ≡ false
seen_torn t e s = sym e ∙ s
