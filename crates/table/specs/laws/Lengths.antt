-- The rule of an edge's length, of an edge that is live and of one that is not; and as the check tests it, without a branch: 1 where one of the
-- two words is 0 and the other is not.
use Rattle.std.specs.Prelude.{ℕ, ◌≤◌, ◌≡◌, not, List, ◌≢◌, eqb}
use Rattle.std.proofs.Common.{arith, eq-eqb, ne_eqb}
use Rattle.std.proofs.Math.Decide.{ℕ_discrete}
use Rattle.std.specs.Bool.{beq}
use mir.Val.{bool_byte}
use Rattle.table.specs.Layout.{edge_word, length_word, longest}
use Rattle.table.specs.Good.{LengthRule}

abbrev pub unfit : ℕ → ℕ → ℕ
unfit w n = bool_byte (not (beq (eqb w 0) (eqb n 0)))

module _ (t : List ℕ) (e : ℕ) where
  pub length_dead : edge_word t e ≡ 0 → length_word t e ≡ 0 → LengthRule t e
  length_dead off z = record { some = λ on. absurd (on off); none = λ _. z; most = rw z (omega arith) }

  pub length_live : edge_word t e ≢ 0 → length_word t e ≢ 0 → length_word t e ≤ longest → LengthRule t e
  length_live on some most = record { some = λ _. some; none = λ off. absurd (on off); most = most }

  pub unfit_none : length_word t e ≤ longest → unfit (edge_word t e) (length_word t e) ≡ 0 → LengthRule t e
  unfit_none h z = elim (ℕ_discrete (edge_word t e) 0) [
    | yes off ↦ elim (ℕ_discrete (length_word t e) 0) [
      | yes n ↦ length_dead off n
      | no n ↦ absurd (let y : unfit (edge_word t e) (length_word t e) ≡ 1 = rw (eq-eqb (edge_word t e) 0 off, ne_eqb (length_word t e) 0 n) in omega arith)
    ]
    | no on ↦ elim (ℕ_discrete (length_word t e) 0) [
      | yes n ↦ absurd (let y : unfit (edge_word t e) (length_word t e) ≡ 1 = rw (ne_eqb (edge_word t e) 0 on, eq-eqb (length_word t e) 0 n) in omega arith)
      | no n ↦ length_live on n h
    ]
  ]
