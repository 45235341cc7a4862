-- What the calls for the counts answer, and what they leave in the slice, document 01, "Counts" and "When a call declines".
--     five_stores                  five stores write the five words of the mesh
--     counts_short, counts_done    the ends of the call for the mesh's counts: 7, or five words
--     rows_size                    six words for each part
--     parts_short, parts_done      the ends of the call for the parts' rows: 7, or all rows
use Rattle.std.specs.Prelude.{ℕ, ◌*◌, ◌<◌, ◌≤◌, ◌≡◌, true, List, length, set, ℤ, Ok, Err}
use Rattle.std.proofs.Common.{arith, sym, ◌∙◌, ap, SFits, to_z, of_z, to_z-of_z}
use Rattle.std.proofs.Math.Path.{refl}
use Rattle.std.proofs.Math.Seq.{sets}
use Rattle.std.specs.Int.{w32}
use Rattle.std.proofs.Math.Facts.{to_z_pos}
use Rattle.table.specs.Layout.{vertices}
use Rattle.table.specs.Rotation.{rotation}
use Rattle.table.specs.Check.{good?}
use Rattle.table.specs.laws.Output.{output_done, sets_front, output_short}
use Rattle.table.specs.declared.answer.Refusal.TheVariants.{ShortSlice}
use Rattle.surface.specs.Parts.{root?}
use Rattle.surface.specs.Rows.{rows}
use Rattle.surface_calls.specs.laws.Rows.{Written, rows_all}
use Rattle.surface_calls.specs.laws.Mesh.{MeshCounts, AddedUp, parts_count, rows_length}
use Rattle.surface.specs.Calls.{five_words, counts_of, counts_answer, counts_out, part_rows, parts_answer, parts_out}

-- five stores

module _ (out : List ℤ) (v e f p : ℕ) (h : v < 65536) (i : e < 65536) (j : f < 65536) (k : p < 65536) where
  pub five_stores : {x : ℤ} → SFits w32 x
      → set (set (set (set (set out 0 (to_z w32 v)) 1 (to_z w32 e)) 2 (to_z w32 f)) 3 (to_z w32 p)) 4 (to_z w32 (of_z w32 x)) ≡ sets out 0 (five_words v e f p x)
  five_stores {x} q =
      rw (
        to_z-of_z q,
        to_z_pos w32 {n = v} (omega arith),
        to_z_pos w32 {n = e} (omega arith),
        to_z_pos w32 {n = f} (omega arith),
        to_z_pos w32 {n = p} (omega arith),
      )
      refl

-- the ends of the calls

module _ (t : List ℕ) (out : List ℤ) (g : good? t ≡ true) where
  pub counts_short : length out < 5 → (Err ShortSlice ≡ counts_answer t (length out)) × (out ≡ counts_out t out)
  unfolding counts_of
  counts_short h = output_short t (counts_of (rotation t)) out g h

  pub counts_done : {v e f p : ℕ} {x : ℤ} {out' : List ℤ} → MeshCounts (rotation t) v e f p x → 5 ≤ length out → out' ≡ sets out 0 (five_words v e f p (to_z w32 (of_z w32 x)))
      → (Ok 5 ≡ counts_answer t (length out)) × (out' ≡ counts_out t out)
  unfolding counts_of
  counts_done m h w =
      let text = counts_of (rotation t) in
      let stored : _ ≡ sets out 0 text = w ∙ rw (to_z-of_z m.euler_fits, m.vertices_are, m.edges_are, m.walks_are, m.parts_are, m.euler_is) in
      output_done t text out g refl h (stored ∙ sets_front text out h)

module _ (t : List ℕ) {k : ℕ} (c : AddedUp (root? (rotation t)) vertices k) where
  pub rows_size : length (rows (rotation t) vertices) ≡ 6 * k
  rows_size = let a = rows_length (rotation t) in let b = parts_count (rotation t) in let p = c.passed in omega arith

  module _ (out : List ℤ) (g : good? t ≡ true) where
    pub parts_short : length out < 6 * k → (Err ShortSlice ≡ parts_answer t (length out)) × (out ≡ parts_out t out)
    parts_short h =
        let s = rows_size in
        let all = ap length (rows_all (rotation t)) in
        output_short t (part_rows (rotation t)) out g (omega arith)

    pub parts_done : {n : ℕ} {out' : List ℤ} → Written (rotation t) vertices n out out' → (Ok (6 * k) ≡ parts_answer t (length out)) × (out' ≡ parts_out t out)
    parts_done W =
        let text = part_rows (rotation t) in
        let all = rows_all (rotation t) in
        let room = rw all at W.room in
        output_done t text out g (sym (ap length (sym all) ∙ rows_size)) room (W.words ∙ ap (sets out 0) all ∙ sets_front text out room)
