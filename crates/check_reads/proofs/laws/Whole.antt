-- The count of the whole check, for each way in which it ends.
use Rattle.std.specs.Prelude.{ℕ, ◌+◌, ◌*◌, ◌<◌, ◌≡◌, List, ◌≢◌, length}
use Rattle.std.proofs.Common.{arith, eq-eqb, ne_eqb}
use Rattle.table.specs.Layout.{words, darts, edges}
use Rattle.table.specs.Good.{LengthRule}
use Rattle.table.specs.laws.Rotation.{case_says, case_denies}
use Rattle.table.specs.laws.Darts.{Ruled}
use Rattle.check_reads.specs.Reads.{edge_block, vertex_block, reads_of, reads_below, check_reads}
use Rattle.check_reads.proofs.laws.Lengths.{lengths_case}
use Rattle.check_reads.proofs.laws.Darts.{blocks_case}

module _ (t : List ℕ) where
  pub size_reads : length t ≢ words → check_reads t ≡ 0
  unfolding check_reads reads_of
  size_reads e = rw (ne_eqb (length t) words e) (omega arith)

  module _ (size : length t ≡ words) where
    pub length_reads : (((e : ℕ) → e < edges → LengthRule t e) → ⊥) → check_reads t ≡ 2 * edges
    unfolding check_reads reads_of
    length_reads f = rw (eq-eqb (length t) words size, case_denies (lengths_case t) f) (omega arith)

    module _ (f : (e : ℕ) → e < edges → LengthRule t e) where
      pub dart_reads : (Ruled t darts → ⊥) → check_reads t ≡ 2 * edges + reads_below (edge_block t) 32
      unfolding check_reads reads_of
      dart_reads r = rw (eq-eqb (length t) words size, case_says (lengths_case t) f, case_denies (blocks_case t) r) (omega arith)

      pub all_reads : Ruled t darts → check_reads t ≡ 2 * edges + reads_below (edge_block t) 32 + reads_below (vertex_block t) 16
      unfolding check_reads reads_of
      all_reads r = rw (eq-eqb (length t) words size, case_says (lengths_case t) f, case_says (blocks_case t) r) (omega arith)
