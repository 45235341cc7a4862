-- An edge that keeps the rule of its length passes the check's test.
use Rattle.std.specs.Prelude.{ℕ, ◌≡◌, List}
use Rattle.std.proofs.Common.{eq-eqb, ne_eqb}
use Rattle.std.proofs.Math.Decide.{ℕ_discrete}
use Rattle.table.specs.Layout.{edge_word, length_word}
use Rattle.table.specs.Good.{LengthRule}
use Rattle.table.specs.laws.Lengths.{unfit}

pub none_unfit : (t : List ℕ) (e : ℕ) → LengthRule t e → unfit (edge_word t e) (length_word t e) ≡ 0
none_unfit t e f = elim (ℕ_discrete (edge_word t e) 0) [
  | yes off ↦ rw (eq-eqb (edge_word t e) 0 off, eq-eqb (length_word t e) 0 (f.none off))
  | no on ↦ rw (ne_eqb (edge_word t e) 0 on, ne_eqb (length_word t e) 0 (f.some on))
]
