-- An edge put in that joins no two parts: it lies in another part, or its ends were joined without it. Then the part keeps its vertices.
-- Outside of the part nothing changes. Inside, V-E+F changes by 0, -1 or -2, as the number of faces changes by +1, 0 or -1;
-- on one walk the marks found without the edge agree with it, on mirror walks no marks do.
--     away_part, away_laws       outside of the part
--     inside_part, inside_laws   inside of it
use Rattle.std.specs.Prelude.{ℕ, ◌+◌, ◌*◌, ◌%◌, ◌≡◌, Bool, true, false}
use native.Mathlib.Omega.{arith}
use Rattle.std.proofs.Common.{◌∙◌}
use Rattle.table.specs.Layout.{rev}
use Rattle.table.specs.Rotation.{Rotation, Lawful}
use Rattle.orbits.proofs.laws.Truth.{clash}
use Rattle.orbits.specs.Reach.{Reach}
use Rattle.orbits.proofs.laws.Reach.{reach_dec}
use Rattle.orbits.specs.Orbits.{On}
use Rattle.orbits.proofs.laws.Mirror.{mirror_world}
use Rattle.orbits.specs.Faces.{Face, along, mirrored}
use Rattle.tracing.proofs.laws.Place.{places, trace, flip, on}
use Rattle.tracing.proofs.laws.Mirrored.{mirrored as tracing-mirror}
use Rattle.surgery.proofs.laws.PlacesIn.{EndsTogether, without_kept, places_in, places_in_part}
use Rattle.surgery.specs.Without.{Without}
use Rattle.surgery.proofs.laws.Between.{Between, between}
use Rattle.surface.specs.Chain.{Chain, here, PartOf, Orientable}
use Rattle.surface.proofs.laws.Chain.{chain_ind, chain_trans, chain_sym, part_kept, MarksOn, orient_fits, fits_orient}
use Rattle.surface.proofs.laws.Colour.{on_in, colour, colour_reach, colour_flip}
use Rattle.surface.proofs.laws.Counts.{faces_at, EulerLaws}
use Rattle.surface.proofs.laws.WithEdge.{out, home, other, edge_step, weaken, onward, ends_kept, marks_down, marks_up, vertices_same, edges_one, edges_same}

-- one edge put in
module _ {R R' : Rotation} {e : ℕ} (L : Lawful R) (L' : Lawful R') (W : Without R e R') {r : ℕ} {Q : ℕ → Bool} (P : PartOf R r Q) where
  K : EndsTogether R Q
  K = part_kept L P

  -- the places at its ends where it goes in
  ends : Between R e R'
  ends = between L L' W

  orient_down : Orientable R Q → Orientable R' Q
  orient_down o = fits_orient (marks_down L L' W (orient_fits o))

  -- outside of the part
  module _ (away : Q (R.from (2 * e)) ≡ false) where
    pub away_part : PartOf R' r Q
    away_part = record {
      joins = λ w q. chain_ind R r (Chain R' r) here step w (P.joins w q);
      all = λ w c. P.all w (weaken L L' W c);
    }
      where
        step : (d : ℕ) → R.live d ≡ true → Chain R r (R.from d) → Chain R' r (R.from d) → Chain R' r (R.from (rev d))
        step d l c t = elim (edge_step L L' W d l) [
          | out a b s ↦ absurd (clash (P.all (R.from d) c) (rw a away))
          | home a b s ↦ absurd (clash (P.all (R.from d) c) (rw a (ends_kept L L' W K ∙ away)))
          | other l' a b ↦ onward L L' W d l' a b t
        ]

    pub away_laws : EulerLaws R' Q (faces_at R' Q) → EulerLaws R Q (faces_at R Q)
    away_laws H =
        let v = vertices_same L L' W Q in
        let n = edges_same L L' W Q away in
        let f = ends.away Q K away in
        record {
          bound = let b = H.bound in omega arith;
          even = λ o. let b = H.even (orient_down o) in omega arith;
          less = λ o.
              let b = H.less (λ o'. o (fits_orient (marks_up L L' W K (orient_fits o') (λ q. absurd (clash q away))))) in
              omega arith;
        }

  -- inside the part, between vertices that are joined without it
  module _ (mine : Q (R.from (2 * e)) ≡ true) (linked : Chain R' (R.from (2 * e)) (R.from (2 * e + 1))) where
    pub inside_part : PartOf R' r Q
    inside_part = record {
      joins = λ w q. chain_ind R r (Chain R' r) here step w (P.joins w q);
      all = λ w c. P.all w (weaken L L' W c);
    }
      where
        step : (d : ℕ) → R.live d ≡ true → Chain R r (R.from d) → Chain R' r (R.from d) → Chain R' r (R.from (rev d))
        step d l c t = elim (edge_step L L' W d l) [
          | out a b s ↦ rw b (chain_trans (rw a at t) linked)
          | home a b s ↦ rw b (chain_trans (rw a at t) (chain_sym L' linked))
          | other l' a b ↦ onward L L' W d l' a b t
        ]

    K' : EndsTogether R' Q
    K' = without_kept L L' W K

    first_in : On places (places_in R' Q) ends.first
    first_in = record { lt = ends.first_on.lt; on = on_in R' Q ends.first ends.first_on.on (rw ends.first_at mine) }

    -- on one walk: the marks agree with the edge
    split_marks : {m : ℕ → ℕ} → MarksOn R' Q m → Reach (trace R') ends.first ends.second
        → (R.turns (2 * e) + m (R.from (2 * e)) + m (R.from (2 * e + 1))) % 2 ≡ 0
    unfolding colour
    split_marks {m} M s =
        let same = rw (ends.first_at, ends.second_at) at (colour_reach L' K' M ends.first ends.second first_in s) in
        let sum = ends.sum in
        omega arith

    -- on mirror walks: they do not
    cross_marks : {m : ℕ → ℕ} → MarksOn R' Q m → Reach (trace R') ends.first (flip R' ends.second)
        → (R.turns (2 * e) + m (R.from (2 * e)) + m (R.from (2 * e + 1))) % 2 ≡ 0 → ⊥
    unfolding colour
    cross_marks {m} M s fit =
        let same = rw ends.first_at at (colour_reach L' K' M ends.first (flip R' ends.second) first_in s) in
        let other = rw ends.second_at at (colour_flip L' m ends.second) in
        let sum = ends.sum in
        omega arith

    pub inside_laws : EulerLaws R' Q (faces_at R' Q) → EulerLaws R Q (faces_at R Q)
    inside_laws H =
        let v = vertices_same L L' W Q in
        let n = edges_one L L' W Q mine in
        elim (reach_dec I ends.first ends.second ends.first_on.lt) [
          | yes s ↦
              let f = ends.splits Q K mine s in
              record {
                bound = let b = H.bound in omega arith;
                even = λ o. let b = H.even (orient_down o) in omega arith;
                less = λ o.
                    let b = H.less (λ o'. let M = orient_fits o' in o (fits_orient (marks_up L L' W K M (λ q. split_marks M s)))) in
                    omega arith;
              }
          | no a ↦ elim (reach_dec I ends.first (flip R' ends.second) ends.first_on.lt) [
            | yes s ↦
                let f = ends.crosses Q K mine s in
                let b = H.bound in
                record {
                  bound = omega arith;
                  even = λ o. let M = orient_fits o in absurd (cross_marks (marks_down L L' W M) s (own_fits M));
                  less = λ o. omega arith;
                }
            | no b ↦
                let f = ends.joins Q K mine (λ t. two_faces a b t) in
                let c = H.bound in
                record { bound = omega arith; even = λ o. let p = H.even (orient_down o) in omega arith; less = λ o. omega arith }
          ]
        ]
      where
        I : Rattle.orbits.specs.Iterate.Inj places (trace R')
        I = (mirror_world (tracing-mirror R' L' (places_in R' Q) (places_in_part L' K'))).perm

        two_faces : ¬ Reach (trace R') ends.first ends.second → ¬ Reach (trace R') ends.first (flip R' ends.second)
            → Face (trace R') (flip R') ends.first ends.second → ⊥
        two_faces n k (along s) = n s
        two_faces n k (mirrored s) = k s

        own_fits : {m : ℕ → ℕ} → MarksOn R Q m → (R.turns (2 * e) + m (R.from (2 * e)) + m (R.from (2 * e + 1))) % 2 ≡ 0
        own_fits M = let q : rev (2 * e) ≡ 2 * e + 1 = omega arith in rw q at (M.fits (2 * e) W.here mine)
