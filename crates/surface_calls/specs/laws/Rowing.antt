-- The code that writes the rows, one vertex at a time: what a turn is handed, and what it leaves.
--     RowReady, RowDone                                  one vertex, before its turn and after it
--     turned_none, turned_other, turned_root, is_root    its cases: not live, no name of a part, the name of one
--     Rowing, rowing_none, rowing_turn, rowing_more      the loop
use Rattle.std.specs.Prelude.{ℕ, ◌+◌, ◌*◌, ◌<◌, ◌≤◌, ◌≡◌, true, List, ◌≢◌, eqb, length, get_or, ℤ}
use Rattle.std.proofs.Common.{arith, sym, ◌∙◌, ap, eq-eqb}
use Rattle.std.proofs.lemmas.List.Edits.{sets}
use Rattle.table.specs.Layout.{vertices, vertex_word, nothing}
use Rattle.table.specs.Rotation.{rotation}
use Rattle.table.specs.laws.Rotation.{there_yes, there_word}
use Rattle.orbits.proofs.laws.Truth.{both, false_unless}
use Rattle.surface.specs.Labels.{label}
use Rattle.surface.specs.Parts.{root?}
use Rattle.surface.proofs.laws.Parts.{root_there, root_label}
use Rattle.surface.specs.Rows.{flag_of, row_of, row, rows}
use Rattle.surface_calls.specs.laws.Rows.{Written, written_none, written_skip, written_more, written_room}
use Rattle.surface_counts.specs.laws.Tally.{Keyed}
use Rattle.surface_counts.specs.laws.Tallying.{PartTally}

-- labels and counts, and room for a row where vertex n is a root
pub record RowReady (t up vs es fs odd : List ℕ) (n at : ℕ) (out : List ℤ) : Type 0 where
  pub keyed : Keyed t up
  pub tally : PartTally t vs es fs odd
  pub low : n < vertices
  pub room : root? (rotation t) n ≡ true → at + 6 ≤ length out
  pub few : at ≤ 6 * n

pub record RowDone (t : List ℕ) (n at : ℕ) (out : List ℤ) (after : ℕ) (out' : List ℤ) : Type 0 where
  pub written : (out₀ : List ℤ) → Written (rotation t) n at out₀ out → Written (rotation t) (n + 1) after out₀ out'
  pub few : after ≤ 6 * (n + 1)

module _ {t up vs es fs odd : List ℕ} {n at : ℕ} {out : List ℤ} (K : RowReady t up vs es fs odd n at out) where
  pub turned_none : vertex_word t n ≡ nothing → RowDone t n at out at out
  turned_none e = record {
    written = λ o W. written_skip W (false_unless _ (λ p. (there_word t n (root_there (rotation t) n p)).1 e));
    few = let f = K.few in omega arith;
  }

  pub turned_other : get_or up n 0 ≢ n → RowDone t n at out at out
  turned_other d = record {
    written = λ o W. written_skip W (false_unless _ (λ p. d (K.keyed.label n K.low ∙ root_label (rotation t) n p)));
    few = let f = K.few in omega arith;
  }

  module _ (e : vertex_word t n ≢ nothing) (q : get_or up n 0 ≡ n) where
    pub is_root : root? (rotation t) n ≡ true
    unfolding root?
    is_root = both (there_yes t n K.low e) (eq-eqb (label (rotation t) n) n (sym (K.keyed.label n K.low) ∙ q))

    row_is : row_of n (get_or vs n 0) (get_or es n 0) (get_or fs n 0) (flag_of (eqb (get_or odd n 0) 0)) ≡ row (rotation t) n
    unfolding row
    row_is =
        let h = K.low in
        rw (K.tally.vertices_at n h, K.tally.edges_at n h, K.tally.walks_at n h, K.tally.orientable_at n h)

    pub turned_root : {out' : List ℤ} → out' ≡ sets out at (row_of n (get_or vs n 0) (get_or es n 0) (get_or fs n 0) (flag_of (eqb (get_or odd n 0) 0)))
        → RowDone t n at out (at + 6) out'
    turned_root w = record {
      written = λ o W. written_more W K.low is_root (w ∙ ap (sets out at) row_is);
      few = let f = K.few in omega arith;
    }

-- the rows of the vertices below n are written
pub record Rowing (t up vs es fs odd : List ℕ) (n at : ℕ) (out₀ out : List ℤ) : Type 0 where
  pub keyed : Keyed t up
  pub tally : PartTally t vs es fs odd
  pub low : n ≤ vertices
  pub few : at ≤ 6 * n
  pub written : Written (rotation t) n at out₀ out

module _ {t up vs es fs odd : List ℕ} {n at : ℕ} {out₀ out : List ℤ} (K : Rowing t up vs es fs odd n at out₀ out) (h : n < vertices) where
  pub rowing_turn : RowReady t up vs es fs odd n at out
  rowing_turn = record { keyed = K.keyed; tally = K.tally; low = h; room = λ r. written_room K.written h r; few = K.few }

  pub rowing_more : {after : ℕ} {out' : List ℤ} → RowDone t n at out after out' → Rowing t up vs es fs odd (n + 1) after out₀ out'
  rowing_more T = record { keyed = K.keyed; tally = K.tally; low = omega arith; few = T.few; written = T.written out₀ K.written }

pub rowing_none : {t up vs es fs odd : List ℕ} {out : List ℤ} → Keyed t up → PartTally t vs es fs odd → length (rows (rotation t) vertices) ≤ length out
    → Rowing t up vs es fs odd 0 0 out out
rowing_none K T h = record { keyed = K; tally = T; low = omega arith; few = omega arith; written = written_none h }
