-- The lines of the parts, read off the rows that are written of them.
--     Sided                                                     the letter of a mark
--     RowOf, rows_few                                           the row of a part
--     vertex_text, euler_text, mark_handed                      what its words say
--     LineOf                                                    the line that it gives
--     Parting                                                   the loop over the rows
--     parting_none, parting_near, parting_more, parting_all     it begins, is far from any limit, goes on, ends
use Rattle.std.specs.Prelude.{ℕ, ◌+◌, ◌*◌, ◌<◌, ◌≤◌, ◌≡◌, refl, Bool, true, ◌&&◌, ℤ, pos, take, drop}
use native.Mathlib.Omega.{arith}
use Rattle.std.proofs.Common.{sym, ◌∙◌, length-append}
use Rattle.std.proofs.Math.Path.{ap}
use mathlib.Core.List.{List, [], ◌∷◌, ◌++◌, append_assoc, append-nil}
use Rattle.std.proofs.Math.ListN.{length, get_or}
use Rattle.std.proofs.Math.Seq.{take-append_seam, drop-append_seam}
use mir.Syntax.{w32}
use mir.Val.{SFits}
use Rattle.std.proofs.Math.Facts.{to_z-of_z}
use Rattle.orbits.proofs.laws.Count.{count_le}
use Rattle.table.specs.Layout.{vertices, edges}
use Rattle.table.specs.Rotation.{Rotation, Lawful}
use Rattle.table.specs.laws.Output.{sets_front}
use Rattle.table.specs.laws.Signed.{handed}
use Rattle.tracing.specs.Listing.{gather, faces, face_count}
use Rattle.tracing.proofs.laws.Listing.{gather_one, gather_none, gather_append}
use Rattle.tracing.proofs.laws.Has.{has_head, has_right, count_in_few}
use Rattle.surface.specs.Counts.{vertices_in, edges_in, walks_in, corner_vertex}
use Rattle.surface.specs.Parts.{root?, parts}
use Rattle.surface.proofs.laws.Parts.{root_there}
use Rattle.surface.proofs.laws.Listed.{listed_root}
use Rattle.surface.specs.Rows.{flag_of, row, rows_of, rows}
use Rattle.surface.specs.Signed.{part_euler}
use Rattle.surface.specs.Labels.{in_part, orientable}
use Rattle.surface_counts.specs.laws.EulerWord.{euler_sfits}
use Rattle.surface_calls.specs.laws.Rows.{Written, flag_fits}
use Rattle.surface_calls.specs.laws.Mesh.{rows_length, parts_count}
use Rattle.tracing.proofs.laws.FaceCount.{faces_low}
use Rattle.text.specs.Decimal.{decimal, integer}
use Rattle.report_lines.specs.Lines.{space, side, part_line}
use Rattle.report_lines.specs.laws.Wrote.{Wrote, wrote_none, wrote_then, wrote_as, wrote_most, parts_most}

-- of whatever part has this mark
abbrev pub Sided : ℤ → ℕ → Type 0
Sided o l = (b : Bool) → o ≡ flag_of b → l ≡ side b

-- the words are the row of the part of r
pub record RowOf (R : Rotation) (words : List ℤ) (r : ℕ) : Type 0 where
  pub vertex : get_or words 0 (pos 0) ≡ pos r
  pub euler : get_or words 4 (pos 0) ≡ part_euler R r
  pub mark : get_or words 5 (pos 0) ≡ flag_of (orientable R r)
  pub low : r < vertices
  pub fits : SFits w32 (part_euler R r)

-- of whatever part has this row
abbrev pub LineOf : List ℤ → ℕ → ℕ → List ℕ → ℕ → List ℕ → Type 0
LineOf words from at out n out' = (R : Rotation) (r : ℕ) → RowOf R words r → Wrote 40 from at out (part_line R r) n out'

module _ {R : Rotation} {words : List ℤ} {r : ℕ} (k : RowOf R words r) where
  pub vertex_text : space ∷ integer (handed (get_or words 0 (pos 0))) ≡ space ∷ decimal r
  unfolding integer
  vertex_text =
      let h = k.low in
      let fits : SFits w32 (pos r) = record { sfits = omega arith } in
      rw (k.vertex, to_z-of_z fits)

  pub euler_text : space ∷ integer (handed (get_or words 4 (pos 0))) ≡ space ∷ integer (part_euler R r)
  euler_text = rw (k.euler, to_z-of_z k.fits)

  pub mark_handed : handed (get_or words 5 (pos 0)) ≡ flag_of (orientable R r)
  mark_handed = rw k.mark (to_z-of_z (flag_fits (orientable R r)))

part_fits : {R : Rotation} → Lawful R → (r : ℕ) → SFits w32 (part_euler R r)
unfolding part_euler vertices_in edges_in walks_in face_count
part_fits {R} L r =
    let v = count_le (λ v. R.there v && in_part R r v) vertices in
    let e = count_le (λ e. R.live (2 * e) && in_part R r (R.from (2 * e))) edges in
    let f = count_in_few (λ c. in_part R r (corner_vertex R c)) (faces R) in
    let all = faces_low L in
    euler_sfits (vertices_in R (in_part R r)) (edges_in R (in_part R r)) (walks_in R (in_part R r)) (omega arith) (omega arith) (omega arith)

-- what is written of a part is its row
row_is : {R : Rotation} → Lawful R → (r : ℕ) → (root? R r ≡ true) → RowOf R (row R r) r
unfolding row part_euler
row_is {R} L r e = record { vertex = refl; euler = refl; mark = refl; low = L.there_low r (root_there R r e); fits = part_fits L r }

parts_few : (R : Rotation) → length (parts R) ≤ vertices
parts_few R = let c = count_le (root? R) vertices in rw (parts_count R) c

pub rows_few : (R : Rotation) → length (rows R vertices) ≤ 6 * vertices
rows_few R = let c = parts_few R in rw (rows_length R) (omega arith)

-- the rows that were written, as the part of the slice that is walked
rows_there : {R : Rotation} {n : ℕ} {room words : List ℤ} → Written R vertices n room words → take n words ≡ rows_of R (parts R)
unfolding rows parts
rows_there {R} {n} {room} w =
    rw (w.here, w.words) (ap (take (length (rows_of R (parts R)))) (sets_front (rows_of R (parts R)) room w.room) ∙ take-append_seam (rows_of R (parts R)) (drop (length (rows_of R (parts R))) room))

-- the loop: the lines of the parts before these rows are written
pub record Parting (R : Rotation) (from at end : ℕ) (out₀ out : List ℕ) (rest : List ℤ) (size : ℕ) : Type 0 where
  pub done : List ℕ
  pub left : List ℕ
  pub all : done ++ left ≡ parts R
  pub here : rest ≡ rows_of R left
  pub six : size ≡ 6
  pub wrote : Wrote (40 * length done) from at out₀ (gather (part_line R) done) end out

pub parting_none : {R : Rotation} {n : ℕ} {room words rest : List ℤ} {size : ℕ} (from at : ℕ) (out : List ℕ) → Written R vertices n room words → rest ≡ take n words → size ≡ 6
    → Parting R from at at out out rest size
parting_none {R} from at out w e z = record {
  done = [];
  left = parts R;
  all = refl;
  here = e ∙ rows_there w;
  six = z;
  wrote = wrote_as (wrote_none from at out) (sym (gather_none (part_line R)));
}

data Next (l : List ℕ) : Type 0 where
  none : l ≡ [] → Next l
  part : (r : ℕ) (rest : List ℕ) → l ≡ r ∷ rest → Next l

next : (l : List ℕ) → Next l
next [] = none refl
next (r ∷ l) = part r l refl

no_rows : (R : Rotation) → rows_of R [] ≡ []
unfolding rows_of
no_rows R = refl

-- a row, and those after it
more_rows : (R : Rotation) (r : ℕ) (l : List ℕ) → rows_of R (r ∷ l) ≡ row R r ++ rows_of R l
unfolding rows_of
more_rows R r l = refl

six_words : (R : Rotation) (r : ℕ) → length (row R r) ≡ 6
unfolding row
six_words R r = refl

module _ {R : Rotation} (L : Lawful R) {from at end : ℕ} {out₀ out : List ℕ} {rest : List ℤ} {size : ℕ} (k : Parting R from at end out₀ out rest size) where
  pub parting_near : end ≤ at + parts_most
  parting_near =
      let a = length-append k.done k.left in
      let all = ap length k.all in
      let b = parts_few R in
      let e = k.wrote.near in
      omega arith

  pub parting_more : {words rest' : List ℤ} {size' m : ℕ} {out' : List ℕ} → rest ≡ words ++ rest' → length words ≡ size → size' ≡ size → LineOf words from end out m out'
      → Parting R from at m out₀ out' rest' size'
  parting_more {words} {rest'} s z y line = elim (next k.left) [
    | none e ↦
        let none : rest ≡ [] = k.here ∙ rw e (no_rows R) in
        let six = k.six in
        let a : 0 ≡ length (words ++ rest') = ap length (sym none ∙ s) in
        let b = length-append words rest' in
        absurd (omega arith)
    | part r l e ↦
        let all : k.done ++ (r ∷ l) ≡ parts R = ap (λ l. k.done ++ l) (sym e) ∙ k.all in
        let there : root? R r ≡ true = listed_root R r (rw all at (has_right r k.done (r ∷ l) (has_head l refl))) in
        let same : words ++ rest' ≡ row R r ++ rows_of R l = sym s ∙ k.here ∙ rw e (more_rows R r l) in
        let long : length words ≡ length (row R r) = z ∙ k.six ∙ sym (six_words R r) in
        let here : words ≡ row R r = sym (take-append_seam words rest') ∙ rw long (ap (take (length (row R r))) same ∙ take-append_seam (row R r) (rows_of R l)) in
        let after : rest' ≡ rows_of R l = sym (drop-append_seam words rest') ∙ rw long (ap (drop (length (row R r))) same ∙ drop-append_seam (row R r) (rows_of R l)) in
        let said : RowOf R words r = rw here (row_is L r there) in
        record {
          done = k.done ++ (r ∷ []);
          left = l;
          all = append_assoc k.done (r ∷ []) l ∙ all;
          here = after;
          six = y ∙ k.six;
          wrote =
              rw (length-append k.done (r ∷ []))
              (wrote_most
              (wrote_as (wrote_then k.wrote (line R r said)) (ap (λ x. gather (part_line R) k.done ++ x) (sym (gather_one (part_line R) r))
              ∙ sym (gather_append (part_line R) k.done (r ∷ []))))
              (40 * (length k.done + 1)) (omega arith));
        }
  ]

  pub parting_all : length rest < size → Wrote parts_most from at out₀ (gather (part_line R) (parts R)) end out
  parting_all l = elim (next k.left) [
    | none e ↦
        let b = parts_few R in
        let all : k.done ≡ parts R = sym (append-nil k.done) ∙ ap (λ l. k.done ++ l) (sym e) ∙ k.all in
        let same = ap length all in
        wrote_most (wrote_as k.wrote (ap (gather (part_line R)) all)) parts_most (omega arith)
    | part r m e ↦
        let six = k.six in
        let a : length rest ≡ length (row R r ++ rows_of R m) = ap length (k.here ∙ rw e (more_rows R r m)) in
        let b = length-append (row R r) (rows_of R m) in
        let c = six_words R r in
        absurd (omega arith)
  ]
