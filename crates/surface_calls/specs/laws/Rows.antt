-- What is written of the parts: for each, upward, six signed words: its smallest vertex, V, E, F, V-E+F, and 1 if it is orientable, else 0.
--     rows_all, rows_append                                the rows below the number of vertices are those of all parts
--     Written, written_none, written_skip, written_more    the loop that writes them
--     written_size, written_room                           the slice keeps its size; there is room for a row
--     row_words, flag_fits                                 the six words of a row, as they are stored
use Rattle.std.specs.Prelude.{ℕ, zero, suc, ◌+◌, ◌<◌, ◌≤◌, ◌≡◌, Bool, true, false, length, set, ℤ}
use Rattle.std.proofs.Common.{arith, add-one, ◌∙◌, SFits, to_z, of_z, to_z-of_z}
use Rattle.std.proofs.Math.Numerals.{towards_suc}
use Rattle.std.proofs.Math.Decide.{ℕ_discrete}
use Rattle.std.proofs.Math.Path.{refl, sym, ap}
use mathlib.Core.List.{List, [], ◌∷◌, ◌++◌, append-nil, append_assoc}
use Rattle.std.proofs.Math.ListN.{length-append}
use Rattle.std.proofs.lemmas.List.Edits.{sets}
use Rattle.std.proofs.Math.Seq.{length-sets}
use Rattle.table.specs.Layout.{vertices}
use Rattle.table.specs.Rotation.{Rotation}
use Rattle.table.specs.laws.Output.{sets_append}
use Rattle.tracing.specs.Listing.{only}
use Rattle.surface.specs.Parts.{root?, parts_below, parts}
use Rattle.std.specs.Int.{w32}
use Rattle.std.proofs.Math.Facts.{to_z_pos, sfits_lit}
use Rattle.surface.specs.Signed.{euler_of}
use Rattle.surface_counts.specs.laws.EulerWord.{euler_sfits}
use Rattle.surface.specs.Rows.{flag_of, row_of, row, rows_of, rows}
use Rattle.surface.specs.Calls.{part_rows}

module _ (R : Rotation) where
  pub rows_append : (a b : List ℕ) → rows_of R (a ++ b) ≡ rows_of R a ++ rows_of R b
  unfolding rows_of
  rows_append [] b = refl
  rows_append (r ∷ a) b = ap (λ l. row R r ++ l) (rows_append a b) ∙ sym (append_assoc (row R r) (rows_of R a) (rows_of R b))

  pub rows_all : rows R vertices ≡ part_rows R
  unfolding rows parts
  rows_all = refl

  rows_none : rows R 0 ≡ []
  unfolding rows rows_of parts_below
  rows_none = refl

  rows_next : (n : ℕ) → rows R (suc n) ≡ rows R n ++ rows_of R (only (root? R n) n)
  unfolding rows parts_below
  rows_next n = rows_append (parts_below R n) (only (root? R n) n)

  rows_skip : (n : ℕ) → root? R n ≡ false → rows R (suc n) ≡ rows R n
  unfolding rows_of
  rows_skip n f = rows_next n ∙ rw (f, append-nil (rows R n))

  rows_more : (n : ℕ) → root? R n ≡ true → rows R (suc n) ≡ rows R n ++ row R n
  unfolding rows_of
  rows_more n t = rows_next n ∙ rw (t, append-nil (row R n))

-- the rows of the parts labelled below n stand at the front
pub record Written (R : Rotation) (n at : ℕ) (out₀ out : List ℤ) : Type 0 where
  pub room : length (rows R vertices) ≤ length out₀
  pub here : at ≡ length (rows R n)
  pub words : out ≡ sets out₀ 0 (rows R n)

pub written_none : {R : Rotation} {out : List ℤ} → length (rows R vertices) ≤ length out → Written R 0 0 out out
written_none {R} h = record { room = h; here = rw (rows_none R); words = rw (rows_none R) }

pub written_size : {R : Rotation} {n at : ℕ} {out₀ out : List ℤ} → Written R n at out₀ out → length out ≡ length out₀
written_size {R} {n} {at} {out₀} K = rw K.words (length-sets out₀ 0 (rows R n))

pub written_skip : {R : Rotation} {n at : ℕ} {out₀ out : List ℤ} → Written R n at out₀ out → root? R n ≡ false → Written R (n + 1) at out₀ out
written_skip {R} {n} K f = rw (add-one n) (record {
  room = K.room;
  here = K.here ∙ rw (rows_skip R n f);
  words = K.words ∙ rw (rows_skip R n f);
})

rows_below : (R : Rotation) (n m : ℕ) → n ≤ m → length (rows R n) ≤ length (rows R m)
rows_below R n zero h = let e : n ≡ 0 = omega arith in rw e (omega arith)
rows_below R n (suc m) h = elim (ℕ_discrete n (suc m)) [
  | yes e ↦ rw e (omega arith)
  | no d ↦
      let back = rows_below R n m (omega arith) in
      rw (rows_next R m, length-append (rows R m) (rows_of R (only (root? R m) m))) (omega arith)
]

module _ {R : Rotation} {n at : ℕ} {out₀ out : List ℤ} (K : Written R n at out₀ out) (h : n < vertices) (t : root? R n ≡ true) where
  six : length (rows R (suc n)) ≡ at + 6
  unfolding row
  six = rw (rows_more R n t, length-append (rows R n) (row R n), ← K.here)

  pub written_room : at + 6 ≤ length out
  written_room =
      let a = six in
      let b = rows_below R (suc n) vertices h in
      let c = K.room in
      let d = written_size K in
      omega arith

  pub written_more : {out' : List ℤ} → out' ≡ sets out at (row R n) → Written R (n + 1) (at + 6) out₀ out'
  written_more e = rw (add-one n) (record {
    room = K.room;
    here = sym six;
    words = e ∙ rw (rows_more R n t, sets_append out₀ 0 (rows R n) (row R n), ← K.words) (ap (λ k. sets out k (row R n)) (K.here ∙ omega arith));
  })

-- six stores

pub flag_fits : (b : Bool) → SFits w32 (flag_of b)
flag_fits true = sfits_lit tt
flag_fits false = sfits_lit tt

module _ (out : List ℤ) (at r v e f : ℕ) (h : r < 65536) (i : v < 65536) (j : e < 65536) (k : f < 65536) where
  pub row_words : {x o : ℤ} (b : Bool) → x ≡ euler_of v e f → o ≡ flag_of b
      → set (set (set (set (set (set out at (to_z w32 r)) (at + 1) (to_z w32 v)) (at + 2) (to_z w32 e)) (at + 3) (to_z w32 f)) (at + 4) (to_z w32 (of_z w32 x))) (at + 5)
      (to_z w32 (of_z w32 o))
      ≡ sets out at (row_of r v e f (flag_of b))
  row_words b p q =
      rw (
        p,
        q,
        to_z-of_z (euler_sfits v e f i j k),
        to_z-of_z (flag_fits b),
        to_z_pos w32 {n = r} (omega arith),
        to_z_pos w32 {n = v} (omega arith),
        to_z_pos w32 {n = e} (omega arith),
        to_z_pos w32 {n = f} (omega arith),
      )
      (simp towards_suc refl)
