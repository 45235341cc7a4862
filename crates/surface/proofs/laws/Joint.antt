-- An edge put in between two parts A and B: they become one. Its ends were on two faces, which become one,
-- so V-E+F is the sum of those of A and B, less 2; and the whole is orientable exactly if both are.
--     first_part, second_part    the parts of the edge's ends without it
--     joint_laws                 what holds of both holds of the whole
use Prim.Native.Nat.{ℕ, suc, ◌+◌, ◌*◌, ◌%◌, ◌<◌}
use Rattle.std.proofs.Common.{arith, ◌∙◌, inl, inr}
use Rattle.std.proofs.Math.Decide.{dec_le}
use Rattle.std.specs.Prelude.{◌≡◌, Bool, true, false, ◌&&◌, ◌||◌, cond, ◌⊎◌}
use Rattle.std.proofs.Math.Path.{sym, ap}
use Rattle.std.proofs.Math.Bool.{and-or_distrib_left, true-or, or-true}
use Rattle.table.specs.Layout.{vertices, edges, rev}
use Rattle.table.specs.Rotation.{Rotation, Lawful}
use Rattle.orbits.proofs.laws.Truth.{Truth, truth, holds, fails, both_right, same_truth, false_unless}
use Rattle.orbits.specs.Count.{count}
use Rattle.orbits.proofs.laws.Count.{count_split}
use Rattle.orbits.specs.Faces.{Face}
use Rattle.orbits.proofs.laws.Faces.{faces_split, face_keeps}
use Rattle.tracing.proofs.laws.Place.{places, trace, flip, on}
use Rattle.tracing.proofs.laws.Mirrored.{mirrored as tracing-mirror}
use Rattle.surgery.proofs.laws.PlacesIn.{EndsTogether, place_vertex, places_in, places_in_part}
use Rattle.surgery.specs.Without.{Without}
use Rattle.surgery.proofs.laws.Between.{Between, between}
use Rattle.surface.specs.Chain.{Chain, here, PartOf, Orientable}
use Rattle.surface.proofs.laws.Chain.{chain_ind, chain_trans, chain_sym, part_kept, MarksOn, orient_fits, fits_orient}
use Rattle.surface.specs.Labels.{label, in_part}
use Rattle.surface.proofs.laws.Labels.{in_part_at}
use Rattle.surface.proofs.laws.Colour.{in_vertex, on_in}
use Rattle.surface.specs.Counts.{vertices_in, edges_in}
use Rattle.surface.proofs.laws.Counts.{faces_at, EulerLaws}
use Rattle.surface.proofs.laws.WithEdge.{EdgeStep, out, home, other, edge_step, weaken, onward, ends_kept, marks_down, marks_up, vertices_same, edges_one}

-- one edge put in, whose ends were not joined
module _ {R R' : Rotation} {e : ℕ} (L : Lawful R) (L' : Lawful R') (W : Without R e R') {r : ℕ} {Q : ℕ → Bool} (P : PartOf R r Q)
    (mine : Q (R.from (2 * e)) ≡ true) (cut : ¬ Chain R' (R.from (2 * e)) (R.from (2 * e + 1))) where
  abbrev A : ℕ → Bool
  A = in_part R' (label R' (R.from (2 * e)))

  abbrev B : ℕ → Bool
  B = in_part R' (label R' (R.from (2 * e + 1)))

  K : EndsTogether R Q
  K = part_kept L P

  -- the places at its ends where it goes in
  ends : Between R e R'
  ends = between L L' W

  pub first_part : PartOf R' (R.from (2 * e)) A
  first_part = in_part_at L' (R.from (2 * e))

  pub second_part : PartOf R' (R.from (2 * e + 1)) B
  second_part = in_part_at L' (R.from (2 * e + 1))

  both_parts : (w : ℕ) → A w ≡ true → B w ≡ true → ⊥
  both_parts w a b = cut (chain_trans (first_part.joins w a) (chain_sym L' (second_part.joins w b)))

  two_parts : (w : ℕ) → Q w ≡ (A w || B w)
  two_parts w = same_truth (Q w) (A w || B w)
      (λ q. into (chain_ind R (R.from (2 * e)) Two (inl here) step w (chain_trans (chain_sym L (P.joins (R.from (2 * e)) mine)) (P.joins w q))))
      (λ t. from_either (truth (A w)) t)
    where
      Two : ℕ → Type 0
      Two v = Chain R' (R.from (2 * e)) v ⊎ Chain R' (R.from (2 * e + 1)) v

      go : (d : ℕ) → EdgeStep R R' e d → Two (R.from d) → Two (R.from (rev d))
      go d (out a b s) t = inr (rw b here)
      go d (home a b s) t = inl (rw b here)
      go d (other l a b) (inl t) = inl (onward L L' W d l a b t)
      go d (other l a b) (inr t) = inr (onward L L' W d l a b t)

      step : (d : ℕ) → R.live d ≡ true → Chain R (R.from (2 * e)) (R.from d) → Two (R.from d) → Two (R.from (rev d))
      step d l c t = go d (edge_step L L' W d l) t

      into : Two w → (A w || B w) ≡ true
      into (inl c) = rw (first_part.all w c) (true-or (B w))
      into (inr c) = rw (second_part.all w c) (or-true (A w))

      member : (u : ℕ) → Q u ≡ true → Chain R' u w → Q w ≡ true
      member u q c = P.all w (chain_trans (P.joins u q) (weaken L L' W c))

      from_either : Truth (A w) → (A w || B w) ≡ true → Q w ≡ true
      from_either (holds a) t = member (R.from (2 * e)) mine (first_part.joins w a)
      from_either (fails a) t = member (R.from (2 * e + 1)) (ends_kept L L' W K ∙ mine) (second_part.joins w (rw a at t))

  KA : EndsTogether R' A
  KA = part_kept L' first_part

  -- a count over tests b i && Q (x i) is the sum of those of the two parts
  count_two : (b : ℕ → Bool) (x : ℕ → ℕ) (n : ℕ) → count (λ i. b i && Q (x i)) n ≡ count (λ i. b i && A (x i)) n + count (λ i. b i && B (x i)) n
  count_two b x n =
      count_split _ _ _ n (λ i h. rw (two_parts (x i)) (and-or_distrib_left (b i) (A (x i)) (B (x i))))
      (λ i h s t. both_parts (x i) (both_right (b i) _ s) (both_right (b i) _ t))

  faces_two : faces_at R' Q ≡ faces_at R' A + faces_at R' B
  unfolding places_in
  faces_two =
      faces_split (trace R') (flip R') places (places_in R' Q) (places_in R' A) (places_in R' B)
      (λ i h. rw (two_parts (place_vertex R' i)) (and-or_distrib_left (on R' i) (A (place_vertex R' i)) (B (place_vertex R' i))))
      (λ i h s t. both_parts (place_vertex R' i) (both_right (on R' i) _ s) (both_right (on R' i) _ t))

  -- a face stays in its part
  two_walks : ¬ Face (trace R') (flip R') ends.first ends.second
  two_walks f =
      let E = tracing-mirror R' L' (places_in R' A) (places_in_part L' KA) in
      let first_in : places_in R' A ends.first ≡ true =
      on_in R' A ends.first ends.first_on.on (rw ends.first_at (first_part.all (R.from (2 * e)) here)) in
      let second_in = (face_keeps E).keep ends.first ends.second ends.first_on.lt ends.second_on.lt f first_in in
      cut (first_part.joins (R.from (2 * e + 1)) (rw ends.second_at at (in_vertex R' A ends.second second_in)))

  -- marks of the two parts, those of the second shifted so that they agree with the edge
  module _ (a : Orientable R' A) (b : Orientable R' B) where
    shift : ℕ
    shift = R.turns (2 * e) + a.mark (R.from (2 * e)) + b.mark (R.from (2 * e + 1))

    glued : ℕ → ℕ
    glued w = cond (A w) (a.mark w) (b.mark w + shift)

    glued_first : (w : ℕ) → A w ≡ true → glued w ≡ a.mark w
    unfolding glued
    glued_first w t = rw t

    glued_second : (w : ℕ) → A w ≡ false → glued w ≡ b.mark w + shift
    unfolding glued
    glued_second w t = rw t

    glued_own : (R.turns (2 * e) + glued (R.from (2 * e)) + glued (R.from (2 * e + 1))) % 2 ≡ 0
    unfolding shift
    glued_own =
        let x = glued_first (R.from (2 * e)) (first_part.all (R.from (2 * e)) here) in
        let y = glued_second (R.from (2 * e + 1)) (false_unless _ (λ t. cut (first_part.joins (R.from (2 * e + 1)) t))) in
        rw (x, y) (omega arith)

    glued_inner : MarksOn R' Q glued
    glued_inner = record {
      fits = λ d l q. elim (truth (A (R'.from d))) [
        | holds t ↦
            let f = (orient_fits a).fits d l t in
            rw (glued_first (R'.from d) t, glued_first (R'.from (rev d)) (KA.edge d l ∙ t)) f
        | fails t ↦
            let f = (orient_fits b).fits d l (in_second (R'.from d) q t) in
            rw (glued_second (R'.from d) t, glued_second (R'.from (rev d)) (KA.edge d l ∙ t)) (omega arith)
      ];
    }
      where
        in_second : (w : ℕ) → Q w ≡ true → A w ≡ false → B w ≡ true
        in_second w q t = let z : (A w || B w) ≡ true = sym (two_parts w) ∙ q in rw t at z

    glue : Orientable R Q
    glue = fits_orient {m = glued} (marks_up L L' W K glued_inner (λ q. glued_own))

  orient_first : Orientable R Q → Orientable R' A
  orient_first o = fits_orient {m = o.mark} (record {
    fits = λ d l t. (marks_down L L' W (orient_fits o)).fits d l (two_parts (R'.from d) ∙ rw t (true-or (B (R'.from d))));
  })

  orient_second : Orientable R Q → Orientable R' B
  orient_second o = fits_orient {m = o.mark} (record {
    fits = λ d l t. (marks_down L L' W (orient_fits o)).fits d l (two_parts (R'.from d) ∙ rw t (or-true (A (R'.from d))));
  })

  vertices_two : vertices_in R Q ≡ vertices_in R' A + vertices_in R' B
  unfolding vertices_in
  vertices_two = sym (vertices_same L L' W Q) ∙ count_two R'.there (λ v. v) vertices

  edges_two : edges_in R Q ≡ suc (edges_in R' A + edges_in R' B)
  unfolding edges_in
  edges_two = edges_one L L' W Q mine ∙ ap suc (count_two (λ k. R'.live (2 * k)) (λ k. R'.from (2 * k)) edges)

  pub joint_laws : EulerLaws R' A (faces_at R' A) → EulerLaws R' B (faces_at R' B) → EulerLaws R Q (faces_at R Q)
  joint_laws HA HB =
      let v = vertices_two in
      let n = edges_two in
      let f = sym (ends.joins Q K mine two_walks) ∙ faces_two in
      let x = HA.bound in
      let y = HB.bound in
      record {
        bound = omega arith;
        even = λ o.
            let p = HA.even (orient_first o) in
            let q = HB.even (orient_second o) in
            omega arith;
        less = λ o. elim (dec_le (vertices_in R Q + faces_at R Q) (edges_in R Q + 1)) [
          | yes h ↦ h
          | no h ↦
              absurd (full HA (omega arith) (λ a. full HB (omega arith) (λ b. o (glue a b))))
        ];
      }
    where
      -- a part with V-E+F of 2 is not unorientable
      full : {T : ℕ → Bool} → EulerLaws R' T (faces_at R' T) → edges_in R' T + 1 < vertices_in R' T + faces_at R' T → ¬ (¬ Orientable R' T)
      full H h n = let b = H.less n in omega arith
