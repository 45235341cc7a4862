-- V, E, F, the number of parts and V-E+F of a mesh, as the code counts them.
--     AddedUp, counted_none, counted_more         a loop that adds up a test's answers
--     vertex_yes, vertex_no, edge_yes, edge_no    the answers for a vertex and for an edge
--     root_none, root_other, root_yes             those for a vertex that may name a part
--     parts_count, rows_length, six_each          the number of parts, and of the words that are written of them
--     MeshCounts, mesh_counts                     the five numbers
use Rattle.std.specs.Prelude.{ℕ, zero, suc, ◌+◌, ◌*◌, ◌/◌, ◌<◌, ◌≤◌, ◌≡◌, refl, Bool, false, List, [], ◌∷◌, ◌≢◌, length, get_or, ℤ}
use Rattle.std.proofs.Common.{arith, add-one, sym, ◌∙◌, ap, length-append, eq-eqb, SFits, to_z, of_z, to_z-of_z}
use Rattle.std.proofs.Math.Bool.{true}
use Rattle.table.specs.Layout.{vertices, edges, vertex_word, edge_word, nothing}
use Rattle.table.specs.Rotation.{Rotation, Lawful, rotation, there?, live?}
use Rattle.table.specs.laws.Rotation.{there_yes, there_word, live_yes, yes_live}
use Rattle.orbits.proofs.laws.Truth.{Truth, truth, holds, fails, both, false_unless}
use Rattle.orbits.specs.Count.{count, more_if}
use Rattle.tracing.specs.Listing.{face_count, only, bit}
use Rattle.tracing.proofs.laws.FaceCount.{faces_low}
use Rattle.std.specs.Int.{w32}
use Rattle.surface_counts.specs.laws.EulerWord.{euler_sfits}
use Rattle.surface.specs.Labels.{label}
use Rattle.surface.specs.Counts.{vertex_count}
use Rattle.surface.specs.Parts.{root?, parts_below, parts}
use Rattle.surface.proofs.laws.Parts.{root_there, root_label}
use Rattle.surface.specs.Signed.{euler_of, mesh_euler}
use Rattle.surface.specs.Rows.{rows, rows_of, row}
use Rattle.surface_counts.specs.laws.Tally.{Keyed}
use Rattle.tracing.specs.Met.{edge_count}

-- k of the numbers below n pass
pub record AddedUp (b : ℕ → Bool) (n k : ℕ) : Type 0 where
  pub passed : k ≡ count b n
  pub few : k ≤ n

pub counted_none : (b : ℕ → Bool) → AddedUp b 0 0
unfolding count
counted_none b = record { passed = refl; few = omega arith }

pub counted_more : {b : ℕ → Bool} {n k j : ℕ} → AddedUp b n k → j ≡ bit (b n) → AddedUp b (n + 1) (k + j)
unfolding count
counted_more {b} {n} {k} {j} K e = by (truth (b n))
  where
    by : Truth (b n) → AddedUp b (n + 1) (k + j)
    by (holds t) =
        let one : j ≡ 1 = e ∙ rw t in
        let p = K.passed in
        let f = K.few in
        record { passed = rw (add-one n, t) (omega arith); few = omega arith }
    by (fails t) =
        let none : j ≡ 0 = e ∙ rw t in
        let p = K.passed in
        let f = K.few in
        record { passed = rw (add-one n, t) (omega arith); few = omega arith }

-- a vertex, an edge, a root: yes and no

module _ (t : List ℕ) where
  pub vertex_yes : (v : ℕ) → v < vertices → vertex_word t v ≢ nothing → 1 ≡ bit (there? t v)
  vertex_yes v h e = rw (there_yes t v h e)

  pub vertex_no : (v : ℕ) → vertex_word t v ≡ nothing → 0 ≡ bit (there? t v)
  vertex_no v e = let n : there? t v ≡ false = false_unless _ (λ p. (there_word t v p).1 e) in rw n

  pub edge_yes : (e : ℕ) → e < edges → edge_word t e ≢ 0 → 1 ≡ bit (live? t (2 * e))
  edge_yes e h n =
      let half : 2 * e / 2 ≡ e = omega arith in
      let l : live? t (2 * e) ≡ true = yes_live t (2 * e) (record { low = omega arith; on = rw half n }) in
      rw l

  pub edge_no : (e : ℕ) → edge_word t e ≡ 0 → 0 ≡ bit (live? t (2 * e))
  edge_no e z =
      let half : 2 * e / 2 ≡ e = omega arith in
      let l : live? t (2 * e) ≡ false = false_unless _ (λ p. (rw half at (live_yes t (2 * e) p).on) z) in
      rw l

  module _ {up : List ℕ} (K : Keyed t up) (v : ℕ) (h : v < vertices) where
    pub root_none : vertex_word t v ≡ nothing → 0 ≡ bit (root? (rotation t) v)
    root_none e = let n : root? (rotation t) v ≡ false = false_unless _ (λ p. (there_word t v (root_there (rotation t) v p)).1 e) in rw n

    pub root_other : get_or up v 0 ≢ v → 0 ≡ bit (root? (rotation t) v)
    root_other d = let n : root? (rotation t) v ≡ false = false_unless _ (λ p. d (K.label v h ∙ root_label (rotation t) v p)) in rw n

    pub root_yes : vertex_word t v ≢ nothing → get_or up v 0 ≡ v → 1 ≡ bit (root? (rotation t) v)
    unfolding root?
    root_yes e q =
        let r : root? (rotation t) v ≡ true = both (there_yes t v h e) (eq-eqb (label (rotation t) v) v (sym (K.label v h) ∙ q)) in
        rw r

parts_below_lem : (R : Rotation) (n : ℕ) → length (parts_below R n) ≡ count (root? R) n
unfolding parts_below count
parts_below_lem R zero = refl
parts_below_lem R (suc n) = rw (length-append (parts_below R n) (only (root? R n) n), parts_below_lem R n) (by (root? R n) (count (root? R) n))
  where
    by : (b : Bool) (k : ℕ) → k + length (only b n) ≡ more_if b k
    by true k = omega arith
    by false k = omega arith

pub parts_count : (R : Rotation) → length (parts R) ≡ count (root? R) vertices
unfolding parts
parts_count R = parts_below_lem R vertices

-- six words for each part
pub six_each : (R : Rotation) (l : List ℕ) → length (rows_of R l) ≡ 6 * length l
unfolding rows_of row
six_each R [] = refl
six_each R (r ∷ l) = let rest = six_each R l in rw (length-append (row R r) (rows_of R l)) (omega arith)

pub rows_length : (R : Rotation) → length (rows R vertices) ≡ 6 * length (parts R)
unfolding rows parts
rows_length R = six_each R (parts R)

-- V, E, F, the parts and V-E+F
pub record MeshCounts (R : Rotation) (v e f p : ℕ) (x : ℤ) : Type 0 where
  pub vertices_are : v ≡ vertex_count R
  pub edges_are : e ≡ edge_count R
  pub walks_are : f ≡ face_count R
  pub parts_are : p ≡ length (parts R)
  pub euler_is : x ≡ mesh_euler R
  pub euler_fits : SFits w32 x

-- the word that holds V-E+F
pub mesh_counts : {R : Rotation} → Lawful R → {v e f p : ℕ} {x : ℤ} → AddedUp R.there vertices v → AddedUp (λ e. R.live (2 * e)) edges e → f ≡ face_count R
    → AddedUp (root? R) vertices p → x ≡ euler_of v e f → MeshCounts R v e f p (to_z w32 (of_z w32 x))
unfolding vertex_count edge_count mesh_euler
mesh_counts {R} L {v} {e} {f} A B F P X =
    let p = A.passed in
    let q = B.passed in
    let a = A.few in
    let b = B.few in
    let c = faces_low L in
    let fits : SFits w32 (euler_of v e f) = euler_sfits v e f (omega arith) (omega arith) (omega arith) in
    let word = ap (λ z. to_z w32 (of_z w32 z)) X ∙ to_z-of_z fits in
    record {
      vertices_are = p;
      edges_are = q;
      walks_are = F;
      parts_are = P.passed ∙ sym (parts_count R);
      euler_is = word ∙ rw (p, q, F);
      euler_fits = rw word fits;
    }
