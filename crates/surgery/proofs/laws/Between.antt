-- An edge between two places of the rotation system without it: what an induction over the edges asks. The places are at the edge's
-- two ends, and their types add to an even number with its turns. So on two faces, on one walk or on mirror walks, the edge
-- makes one face less, one more or as many, in each set of vertices that edges keep.
--     Between             the two places, and the four cases
--     between             there are such places for every edge
--     inserted_between    they are the places of the two corners, the second turned by the edge's parity
use Rattle.std.specs.Prelude.{◌≡◌, Bool, true, false, ℕ, suc, ◌+◌, ◌-◌, ◌*◌, ◌/◌, ◌%◌}
use Rattle.std.proofs.Common.{sym, ◌∙◌, ap, arith}
use Rattle.table.specs.Layout.{darts}
use Rattle.table.specs.Rotation.{Rotation, Lawful}
use Rattle.orbits.specs.Reach.{Reach}
use Rattle.orbits.specs.Orbits.{On}
use Rattle.orbits.proofs.laws.Mirror.{mirror_on}
use Rattle.orbits.specs.Faces.{Face}
use Rattle.tracing.specs.Step.{steps}
use Rattle.tracing.proofs.laws.Step.{is_zero, is_one, mirror_type}
use Rattle.tracing.proofs.laws.Place.{places, trace, flip, on, place, is_step_lem, is_still, flip_step, flip_still}
use Rattle.tracing.proofs.laws.Mirrored.{whole, mirrored}
use Rattle.tracing.proofs.laws.FaceCount.{place_of, place_lone}
use Rattle.surgery.specs.Without.{Without}
use Rattle.surgery.proofs.laws.Through.{parity_type}
use Rattle.surgery.proofs.laws.Past.{faces_of}
use Rattle.surgery.proofs.laws.Delete.{delete_elsewhere}
use Rattle.surgery.proofs.laws.Insert.{bend, bend_zero, bend_one, insert_less, insert_more, insert_same}
use Rattle.surgery.specs.Sits.{Sits, just_before, before_other, at_vertex, Inserted}
use Rattle.surgery.proofs.laws.Sits.{place_live, live_low, sits_on, inserted_somewhere, enters, first_in, second_in}
use Rattle.surgery.proofs.laws.PlacesIn.{place_vertex, places_in, EndsTogether, vertex_step, vertex_still, vertex_flip, without_parts, inside_of, outside_of}
use Rattle.surgery.specs.Change.{parity}

pub record Between (R : Rotation) (e : ℕ) (R' : Rotation) : Type 0 where
  pub first : ℕ
  pub second : ℕ
  pub first_on : On places (on R') first
  pub second_on : On places (on R') second
  pub first_at : place_vertex R' first ≡ R.from (2 * e)
  pub second_at : place_vertex R' second ≡ R.from (2 * e + 1)
  pub sum : (first + second + R.turns (2 * e)) % 2 ≡ 0
  pub away : (Q : ℕ → Bool) → EndsTogether R Q → Q (R.from (2 * e)) ≡ false → faces_of R (places_in R Q) ≡ faces_of R' (places_in R' Q)
  pub joins : (Q : ℕ → Bool) → EndsTogether R Q → Q (R.from (2 * e)) ≡ true → ¬ Face (trace R') (flip R') first second
      → faces_of R' (places_in R' Q) ≡ suc (faces_of R (places_in R Q))
  pub splits : (Q : ℕ → Bool) → EndsTogether R Q → Q (R.from (2 * e)) ≡ true → Reach (trace R') first second
      → faces_of R (places_in R Q) ≡ suc (faces_of R' (places_in R' Q))
  pub crosses : (Q : ℕ → Bool) → EndsTogether R Q → Q (R.from (2 * e)) ≡ true → Reach (trace R') first (flip R' second)
      → faces_of R (places_in R Q) ≡ faces_of R' (places_in R' Q)

-- the mirror of a place has the other type
flip_type : (R : Rotation) (s : ℕ) → flip R s % 2 ≡ 1 - s % 2
flip_type R s = elim (place s) [
  | is_step_lem h ↦ rw (flip_step R s h) (mirror_type R s)
  | is_still h ↦ rw (flip_still R s h) (omega arith)
]

module _ {R R' : Rotation} {e : ℕ} (L : Lawful R) (L' : Lawful R') (W : Without R e R') where
  sits_vertex : (x : ℕ) {c : ℕ} → Sits R e R' x c → place_vertex R' (place_of c) ≡ R.from x
  sits_vertex x {c} S = by S
    where
      at_dart : R'.live c ≡ true → place_vertex R' (place_of c) ≡ R.from c
      at_dart l =
          let half : 2 * c / 2 ≡ c = omega arith in
          rw (place_live L L' W c l) (vertex_step R' (2 * c) (live_low L L' W c l) ∙ rw half (W.from c l))

      by : Sits R e R' x c → place_vertex R' (place_of c) ≡ R.from x
      by (just_before l n) = at_dart l ∙ ap R.from (sym n) ∙ L.from_next x
      by (before_other l q n) = at_dart l ∙ ap R.from (sym n) ∙ L.from_next (R.next x) ∙ L.from_next x
      by (at_vertex v z a f) =
          let same : (2 * (darts + v) - steps) / 2 ≡ v = omega arith in
          rw (z, place_lone v) (vertex_still R' (2 * (darts + v)) (omega arith) ∙ same ∙ sym f)

  sits_type : (x : ℕ) {c : ℕ} → Sits R e R' x c → place_of c % 2 ≡ 0
  sits_type x {c} (just_before l n) = rw (place_live L L' W c l) (omega arith)
  sits_type x {c} (before_other l q n) = rw (place_live L L' W c l) (omega arith)
  sits_type x {c} (at_vertex v z a f) = rw (z, place_lone v) (omega arith)

  module _ {c₁ c₂ : ℕ} (N : Inserted R e R' c₁ c₂) where
    abbrev other : ℕ
    other = bend R' (parity R e) (place_of c₂)

    other_on : On places (on R') other
    other_on = elim (parity_type R e) [
      | is_zero z ↦ rw (bend_zero R' (place_of c₂) z) (sits_on L L' W (2 * e + 1) N.second)
      | is_one z ↦ rw (bend_one R' (place_of c₂) z) (mirror_on (mirrored R' L' (on R') (whole R' L')) (sits_on L L' W (2 * e + 1) N.second))
    ]

    other_at : place_vertex R' other ≡ R.from (2 * e + 1)
    other_at = elim (parity_type R e) [
      | is_zero z ↦ rw (bend_zero R' (place_of c₂) z) (sits_vertex (2 * e + 1) N.second)
      | is_one z ↦ rw (bend_one R' (place_of c₂) z) (vertex_flip L' (place_of c₂) ∙ sits_vertex (2 * e + 1) N.second)
    ]

    even : (place_of c₁ + other + R.turns (2 * e)) % 2 ≡ 0
    even =
        let a = sits_type (2 * e) N.first in
        let b = sits_type (2 * e + 1) N.second in
        elim (parity_type R e) [
          | is_zero z ↦ rw (bend_zero R' (place_of c₂) z) (omega arith)
          | is_one z ↦
              let f = flip_type R' (place_of c₂) in
              rw (bend_one R' (place_of c₂) z) (omega arith)
        ]

    inserted_between : Between R e R'
    inserted_between = record {
      first = place_of c₁;
      second = other;
      first_on = sits_on L L' W (2 * e) N.first;
      second_on = other_on;
      first_at = sits_vertex (2 * e) N.first;
      second_at = other_at;
      sum = even;
      away = λ Q C f. sym (delete_elsewhere L L' W (without_parts L L' W C) (outside_of L e W.here C f));
      joins = λ Q C t n.
          let K = without_parts L L' W C in
          let i = inside_of L e W.here C t in
          insert_less L L' W K i (first_in L L' W K i N) (second_in L L' W K i N) (enters L L' W N) n;
      splits = λ Q C t r.
          let K = without_parts L L' W C in
          let i = inside_of L e W.here C t in
          insert_more L L' W K i (first_in L L' W K i N) (second_in L L' W K i N) (enters L L' W N) r;
      crosses = λ Q C t r.
          let K = without_parts L L' W C in
          let i = inside_of L e W.here C t in
          insert_same L L' W K i (first_in L L' W K i N) (second_in L L' W K i N) (enters L L' W N) r;
    }

  pub between : Between R e R'
  between = let s = inserted_somewhere L L' W in inserted_between s.2
