-- The check of the lengths passes exactly if every edge keeps their rule.
use Rattle.std.specs.Prelude.{ℕ, ◌<◌, List, ◌≢◌}
use Rattle.std.proofs.Common.{arith, eq-eqb, ne_eqb}
use Rattle.std.proofs.Math.Decide.{ℕ_discrete}
use Rattle.table.specs.Layout.{edges, edge_word, length_word, longest}
use Rattle.table.specs.Good.{LengthRule}
use Rattle.table.specs.laws.Lengths.{length_dead, length_live}
use Rattle.table.specs.laws.Rotation.{Case, eq_case, lt_case, le_case, case_map}
use Rattle.check_reads.specs.Reads.{length_fits, all_below}
use Rattle.check_reads.proofs.laws.Tests.{both_case, all_case}

module _ (t : List ℕ) where
  length_case : (e : ℕ) → Case (length_fits t e) (LengthRule t e)
  length_case e = elim (ℕ_discrete (edge_word t e) 0) [
    | yes off ↦ rw (eq-eqb (edge_word t e) 0 off) (case_map (length_dead t e off) (λ l. l.none off) (eq_case _ 0))
    | no on ↦ rw (ne_eqb (edge_word t e) 0 on)
        (case_map (λ p. length_live t e on (some p.0) p.1) (λ l. (low (l.some on), l.most)) (both_case (lt_case 0 _) (le_case _ longest)))
  ]
    where
      some : 0 < length_word t e → length_word t e ≢ 0
      some h z = omega arith

      low : length_word t e ≢ 0 → 0 < length_word t e
      low n = omega arith

  pub lengths_case : Case (all_below (length_fits t) edges) ((e : ℕ) → e < edges → LengthRule t e)
  lengths_case = all_case edges (λ e h. length_case e)
