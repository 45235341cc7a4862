-- A mesh without edges: each part is one isolated vertex with one face, so V-E+F is 2, and it is orientable.
--     bare_laws                          the laws of V-E+F for such a part
--     alone_part, one_vertex, no_edge    the part is its one vertex, and has no edge
--     root_alone, one_face               the vertex is isolated, and has one face
--     bare_orient                        the part is orientable
use Rattle.std.specs.Prelude.{ℕ, ◌+◌, ◌-◌, ◌*◌, ◌/◌, ◌<◌, ◌≡◌, refl, Bool, false, ◌&&◌}
use native.Mathlib.Omega.{arith}
use Rattle.std.proofs.Math.Decide.{ℕ_discrete}
use Rattle.std.proofs.Math.Path.{sym}
use Rattle.std.proofs.Common.{◌∙◌}
use Rattle.std.proofs.Math.Bool.{true}
use Rattle.table.specs.Layout.{vertices, edges}
use Rattle.table.specs.Rotation.{Rotation, Lawful}
use Rattle.orbits.proofs.laws.Truth.{truth, holds, fails, clash, both, both_right}
use Rattle.orbits.specs.Count.{count}
use Rattle.orbits.proofs.laws.Count.{count_none}
use Rattle.orbits.proofs.laws.Reach.{reach_here}
use Rattle.orbits.specs.Faces.{Face, along, mirrored}
use Rattle.orbits.proofs.laws.Faces.{reps_faces}
use Rattle.tracing.specs.Step.{steps}
use Rattle.tracing.proofs.laws.Place.{places, trace, flip, on, place, is_step_lem, is_still, on_step, on_still, flip_still}
use Rattle.tracing.proofs.laws.Has.{count_single}
use Rattle.tracing.proofs.laws.Mirrored.{mirrored as tracing-mirror}
use Rattle.surface.specs.Chain.{here, PartOf, Orientable}
use Rattle.surface.proofs.laws.Chain.{chain_ind, part_kept, fits_orient}
use Rattle.surgery.proofs.laws.PlacesIn.{vertex_still, places_in, places_in_part, part_within}
use Rattle.surface.proofs.laws.Colour.{in_vertex, on_in}
use Rattle.surface.specs.Counts.{vertices_in, edges_in}
use Rattle.surface.proofs.laws.Counts.{faces_at, EulerLaws}

-- no edges: the part is one vertex, which is isolated, and has one face
module _ {R : Rotation} (L : Lawful R) (bare : (d : ℕ) → R.live d ≡ false) {r : ℕ} (t : R.there r ≡ true) {Q : ℕ → Bool} (P : PartOf R r Q) where
  alone_part : (w : ℕ) → Q w ≡ true → w ≡ r
  alone_part w q = chain_ind R r (λ v. v ≡ r) refl (λ d l c e. absurd (clash l (bare d))) w (P.joins w q)

  one_vertex : vertices_in R Q ≡ 1
  unfolding vertices_in
  one_vertex =
      count_single (λ v. R.there v && Q v) vertices r (L.there_low r t) (both t (P.all r here))
      (λ i h p. alone_part i (both_right (R.there i) (Q i) p))

  no_edge : edges_in R Q ≡ 0
  unfolding edges_in
  no_edge = count_none _ edges (λ e h. rw (bare (2 * e)))

  root_alone : R.alone r ≡ true
  root_alone = elim (truth (R.alone r)) [
    | holds a ↦ a
    | fails a ↦ let j = L.joined r t a in absurd (clash j.1 (bare j.0))
  ]

  root_face : (i : ℕ) → i < places → places_in R Q i ≡ true → Face (trace R) (flip R) i (steps + 2 * r)
  root_face i h p = elim (place i) [
    | is_step_lem l ↦ absurd (clash (sym (on_step R i l) ∙ part_within R Q i p) (bare (i / 2)))
    | is_still l ↦
        let v : (i - steps) / 2 ≡ r = alone_part _ (rw (vertex_still R i l) at (in_vertex R Q i p)) in
        elim (ℕ_discrete i (steps + 2 * r)) [
          | yes e ↦ rw e (along reach_here)
          | no n ↦
              let f : flip R (steps + 2 * r) ≡ i = flip_still R (steps + 2 * r) (omega arith) ∙ omega arith in
              mirrored (rw f reach_here)
        ]
  ]

  one_face : faces_at R Q ≡ 1
  unfolding count
  one_face =
      let low = L.there_low r t in
      let half : (steps + 2 * r - steps) / 2 ≡ r = omega arith in
      let in_place : places_in R Q (steps + 2 * r) ≡ true =
      on_in R Q (steps + 2 * r) (rw (on_still R (steps + 2 * r) (omega arith), half) root_alone)
      (rw (vertex_still R (steps + 2 * r) (omega arith), half) (P.all r here)) in
      sym (reps_faces {M = 1} {t = λ j. true} {φ = λ j. steps + 2 * r} (tracing-mirror R L (places_in R Q) (places_in_part L (part_kept L P))) (record {
        low = λ j h u. omega arith;
        on = λ j h u. in_place;
        hit = λ i h p. record { to = 0; low = omega arith; pass = refl; pair = root_face i h p };
        one = λ i j h l p q f. omega arith;
      }))

  bare_orient : Orientable R Q
  bare_orient = fits_orient {m = λ w. 0} (record { fits = λ d l q. absurd (clash l (bare d)) })

  pub bare_laws : EulerLaws R Q (faces_at R Q)
  bare_laws =
      let v = one_vertex in
      let e = no_edge in
      let f = one_face in
      record { bound = omega arith; even = λ o. rw (v, e, f); less = λ n. absurd (n bare_orient) }
