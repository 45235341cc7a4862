-- The places of a set of vertices that edges keep: each edge has both its ends in the set, or none, as in a connected part. They are a part
-- of the tracing. The same set of vertices is such a part before an edit and after it, and it has the edge exactly if it has the edge's first vertex.
--     place_vertex, vertex_step, vertex_still, vertex_flip   the vertex of a place
--     places_in, part_on, part_off, part_within              the places that are there at these vertices
--     EndsTogether, places_in_part                           edges keep the set: then its places are a part
--     without_kept, without_parts, seat_vertex_at            with an edge and without it
--     inside_of, outside_of                                  the edge's steps are in the part, or none is
use Rattle.std.specs.Prelude.{◌≡◌, Bool, true, false, ◌&&◌, cond, ℕ, ◌+◌, ◌-◌, ◌*◌, ◌/◌, ◌%◌, ◌<◌, ◌≤◌, ltb}
use Rattle.std.proofs.Common.{sym, ◌∙◌, ap, arith, lt-ltb, le-ltb}
use Rattle.table.specs.Layout.{rev}
use Rattle.table.specs.Rotation.{Rotation, Lawful}
use Rattle.orbits.proofs.laws.Truth.{truth, holds, fails, both_left}
use Rattle.orbits.specs.Orbits.{On}
use Rattle.tracing.specs.Step.{steps, other_type}
use Rattle.tracing.proofs.laws.Step.{Type?, type?, step_word, mirror_word}
use Rattle.tracing.proofs.laws.Place.{places, trace, flip, on, place, is_step_lem, is_still, trace_step, trace_still, flip_step, flip_still, on_step, on_trace, on_flip, rev_vertex}
use Rattle.tracing.proofs.laws.Mirrored.{Part}
use Rattle.surgery.proofs.laws.Spin.{spin, spin_from, step_type?, trace_spin, flip_spin, other_type_lem}
use Rattle.surgery.specs.Without.{Without}
use Rattle.surgery.proofs.laws.Without.{were, here_both}
use Rattle.surgery.proofs.laws.TwoSides.{near, far}
use Rattle.surgery.proofs.laws.Through.{parity_low}
use Rattle.surgery.proofs.laws.Seat.{seat, halves, Seated, a_step, a_vertex, a_bare, seated}
use Rattle.surgery.proofs.laws.SeatFollows.{seat_follows}
use Rattle.surgery.proofs.laws.Past.{Parts, Inside, Outside, inside_whole}

unfoldable pub place_vertex : Rotation → ℕ → ℕ
place_vertex R s = cond (ltb s steps) (R.from (s / 2)) ((s - steps) / 2)

unfoldable pub places_in : Rotation → (ℕ → Bool) → ℕ → Bool
places_in R Q s = on R s && Q (place_vertex R s)

pub record EndsTogether (R : Rotation) (Q : ℕ → Bool) : Type 0 where
  pub edge : (d : ℕ) → R.live d ≡ true → Q (R.from (rev d)) ≡ Q (R.from d)

module _ (R : Rotation) where
  pub vertex_step : (s : ℕ) → s < steps → place_vertex R s ≡ R.from (s / 2)
  unfolding place_vertex
  vertex_step s h = rw (lt-ltb s steps h)

  pub vertex_still : (s : ℕ) → steps ≤ s → place_vertex R s ≡ (s - steps) / 2
  unfolding place_vertex
  vertex_still s h = rw (le-ltb s steps h)

  module _ (Q : ℕ → Bool) where
    pub part_on : (s : ℕ) → on R s ≡ true → places_in R Q s ≡ Q (place_vertex R s)
    unfolding places_in
    part_on s e = rw e

    pub part_off : (s : ℕ) → on R s ≡ false → places_in R Q s ≡ false
    unfolding places_in
    part_off s e = rw e

    pub part_within : (s : ℕ) → places_in R Q s ≡ true → on R s ≡ true
    unfolding places_in
    part_within s e = both_left (on R s) (Q (place_vertex R s)) e

    -- two places that are there together, at vertices that the set has together
    part_same : (s k : ℕ) → on R k ≡ on R s → (on R s ≡ true → Q (place_vertex R k) ≡ Q (place_vertex R s)) → places_in R Q k ≡ places_in R Q s
    part_same s k same q = elim (truth (on R s)) [
      | holds e ↦ part_on k (same ∙ e) ∙ q e ∙ sym (part_on s e)
      | fails e ↦ part_off k (same ∙ e) ∙ sym (part_off s e)
    ]

module _ {R : Rotation} (L : Lawful R) where
  at_step : {t : ℕ} → Type? t → (s d : ℕ) → s < steps → s ≡ 2 * spin R t d + t → place_vertex R s ≡ R.from d
  at_step {t} T s d h q = vertex_step R s h ∙ rw (q, (halves (spin R t d) t T).0) (spin_from L T d)

  pub vertex_flip : (s : ℕ) → place_vertex R (flip R s) ≡ place_vertex R s
  vertex_flip s = elim (place s) [
    | is_step_lem h ↦
        let w : flip R s < steps = rw (flip_step R s h) (mirror_word R L s h) in
        at_step (other_type_lem (type? s)) (flip R s) (s / 2) w (flip_spin R s h) ∙ sym (vertex_step R s h)
    | is_still h ↦ rw (flip_still R s h) (vertex_still R (other_type s) (omega arith) ∙ rev_vertex s h ∙ sym (vertex_still R s h))
  ]

module _ {R : Rotation} (L : Lawful R) {Q : ℕ → Bool} (C : EndsTogether R Q) where
  pub places_in_part : Part R (places_in R Q)
  places_in_part = record {
    traced = λ s l. part_same R Q s (trace R s) (on_trace R L s) (λ e. traced s e);
    flipped = λ s l. part_same R Q s (flip R s) (on_flip R L s) (λ e. ap Q (vertex_flip L s));
    within = λ s l. part_within R Q s;
  }
    where
      traced : (s : ℕ) → on R s ≡ true → Q (place_vertex R (trace R s)) ≡ Q (place_vertex R s)
      traced s e = elim (place s) [
        | is_step_lem h ↦
            let w : trace R s < steps = rw (trace_step R s h) (step_word R L s h) in
            ap Q (at_step L (step_type? R s) (trace R s) (rev (s / 2)) w (trace_spin R s h))
            ∙ C.edge (s / 2) (rw (on_step R s h) at e) ∙ ap Q (sym (vertex_step R s h))
        | is_still h ↦ rw (trace_still R s h)
      ]

module _ {R R' : Rotation} {e : ℕ} (L : Lawful R) (L' : Lawful R') (W : Without R e R') {Q : ℕ → Bool} (C : EndsTogether R Q) where
  pub without_kept : EndsTogether R' Q
  without_kept = record {
    edge = λ d l.
        rw (W.from (rev d) (L'.live_rev d ∙ l), W.from d l) (C.edge d (were L L' W d l));
  }

  -- a place and its seat are at one vertex
  pub seat_vertex_at : (s : ℕ) → On places (on R') s → place_vertex R (seat R e s) ≡ place_vertex R' s
  seat_vertex_at s o = by (seated L L' W s o)
    where
      by : Seated R e R' s → place_vertex R (seat R e s) ≡ place_vertex R' s
      by (a_step h l q) = rw q (vertex_step R s h ∙ sym (W.from (s / 2) l) ∙ sym (vertex_step R' s h))
      by (a_vertex h a q) = rw q (vertex_still R s h ∙ sym (vertex_still R' s h))
      by (a_bare h d x v a p q) =
          let low = L.dart_low d (here_both L L' W d x) in
          let half = (halves d (s % 2) (type? s)).0 in
          rw q (vertex_step R (2 * d + s % 2) (omega arith) ∙ rw half v ∙ sym (vertex_still R' s h))

  pub without_parts : Parts R e R' (places_in R Q) (places_in R' Q)
  without_parts = record {
    before = places_in_part L C;
    after = places_in_part L' without_kept;
    seats = λ s o.
        part_on R' Q s o.on ∙ ap Q (sym (seat_vertex_at s o)) ∙ sym (part_on R Q (seat R e s) ((seat_follows L L' W).lives s o).on);
  }

module _ {R : Rotation} (L : Lawful R) (e : ℕ) (live : R.live (2 * e) ≡ true) {Q : ℕ → Bool} (C : EndsTogether R Q) where
  at_near : places_in R Q (near e) ≡ Q (R.from (2 * e))
  at_near =
      let low = L.dart_low (2 * e) live in
      let first : near e / 2 ≡ 2 * e = omega arith in
      part_on R Q (near e) (inside_whole L live).near_in ∙ ap Q (vertex_step R (near e) (omega arith) ∙ rw first)

  at_far : places_in R Q (far R e) ≡ Q (R.from (2 * e))
  at_far =
      let low = L.dart_low (2 * e) live in
      let bit = parity_low R e in
      let second : far R e / 2 ≡ rev (2 * e) = omega arith in
      part_on R Q (far R e) (inside_whole L live).far_in ∙ ap Q (vertex_step R (far R e) (omega arith) ∙ rw second) ∙ C.edge (2 * e) live

  pub inside_of : Q (R.from (2 * e)) ≡ true → Inside R e (places_in R Q)
  inside_of q = record { near_in = at_near ∙ q; far_in = at_far ∙ q }

  pub outside_of : Q (R.from (2 * e)) ≡ false → Outside R e (places_in R Q)
  outside_of q = record { near_out = at_near ∙ q; far_out = at_far ∙ q }
