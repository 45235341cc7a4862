-- Along a walk of a part the type changes as the marks do: the type of a place plus the mark of its vertex is one along a walk.
--     colour                   the type of a place plus the mark of its vertex
--     colour_reach             it is one along a walk, if the marks agree with the part's edges;     colour_flip     and another in the other sense
use Rattle.std.specs.Prelude.{ℕ, ◌+◌, ◌*◌, ◌/◌, ◌%◌, ◌<◌, ◌≡◌, refl, Bool}
use Rattle.std.proofs.Common.{arith, ◌∙◌, ap}
use Rattle.std.proofs.Math.Path.{sym}
use Rattle.std.proofs.Math.Bool.{true}
use Rattle.table.specs.Layout.{rev}
use Rattle.table.specs.Rotation.{Rotation, Lawful}
use Rattle.orbits.proofs.laws.Truth.{both, both_right}
use Rattle.orbits.specs.Reach.{Reach}
use Rattle.orbits.proofs.laws.Reach.{reach_one, reach_ind}
use Rattle.orbits.specs.Orbits.{World, On}
use Rattle.orbits.proofs.laws.Orbits.{reach_on}
use Rattle.orbits.proofs.laws.Mirror.{mirror_world}
use Rattle.tracing.specs.Step.{steps, around, step_type, step}
use Rattle.tracing.proofs.laws.Step.{Type?, is_zero, is_one, type?, around_next, around_prev, step_type_lem, step_word, mirror_type}
use Rattle.tracing.proofs.laws.Place.{places, trace, flip, on, place, is_step_lem, is_still, trace_step, trace_still, flip_step, flip_still, on_step}
use Rattle.tracing.proofs.laws.Mirrored.{mirrored}
use Rattle.surgery.proofs.laws.PlacesIn.{place_vertex, places_in, EndsTogether, vertex_step, vertex_flip, part_within, places_in_part}
use Rattle.surface.proofs.laws.Chain.{MarksOn}

module _ (R : Rotation) where
  trace_type : (s : ℕ) → s < steps → trace R s % 2 ≡ (s + R.turns (s / 2)) % 2
  unfolding step_type
  trace_type s h = rw (trace_step R s h) (step_type_lem R s)

  pub in_vertex : (Q : ℕ → Bool) (s : ℕ) → places_in R Q s ≡ true → Q (place_vertex R s) ≡ true
  unfolding places_in
  in_vertex Q s t = both_right (on R s) (Q (place_vertex R s)) t

  pub on_in : (Q : ℕ → Bool) (s : ℕ) → on R s ≡ true → Q (place_vertex R s) ≡ true → places_in R Q s ≡ true
  unfolding places_in
  on_in Q s o q = both o q

module _ {R : Rotation} (L : Lawful R) where
  around_from : (t d : ℕ) → Type? t → R.from (around R t d / 2) ≡ R.from d
  around_from t d (is_zero e) =
      let half : 2 * R.next d / 2 ≡ R.next d = omega arith in
      rw (around_next R t d e, half) (L.from_next d)
  around_from t d (is_one e) =
      let half : (2 * R.prev d + 1) / 2 ≡ R.prev d = omega arith in
      rw (around_prev R t d e, half) (sym (L.from_next (R.prev d)) ∙ ap R.from (L.next_prev d))

  pub vertex_trace : (s : ℕ) → s < steps → place_vertex R (trace R s) ≡ R.from (rev (s / 2))
  unfolding step step_type
  vertex_trace s h =
      rw (trace_step R s h) (vertex_step R (step R s) (step_word R L s h) ∙ around_from ((s + R.turns (s / 2)) % 2) (rev (s / 2)) (type? (s + R.turns (s / 2))))

-- the type of a place and the mark of its vertex
unfoldable pub colour : Rotation → (ℕ → ℕ) → ℕ → ℕ
colour R m s = (s % 2 + m (place_vertex R s)) % 2

module _ {R : Rotation} (L : Lawful R) {Q : ℕ → Bool} (K : EndsTogether R Q) {m : ℕ → ℕ} (M : MarksOn R Q m) where
  colour_trace : (s : ℕ) → places_in R Q s ≡ true → colour R m (trace R s) ≡ colour R m s
  unfolding colour
  colour_trace s t = elim (place s) [
    | is_step_lem h ↦
        let live : R.live (s / 2) ≡ true = sym (on_step R s h) ∙ part_within R Q s t in
        let fit = M.fits (s / 2) live (rw (vertex_step R s h) at (in_vertex R Q s t)) in
        let type : trace R s % 2 ≡ (s + R.turns (s / 2)) % 2 = trace_type R s h in
        rw (vertex_trace L s h, vertex_step R s h) (omega arith)
    | is_still h ↦ rw (trace_still R s h)
  ]

  pub colour_reach : (i j : ℕ) → On places (places_in R Q) i → Reach (trace R) i j → colour R m j ≡ colour R m i
  colour_reach i j o r =
      (reach_ind (trace R) (λ k. On places (places_in R Q) k × (colour R m k ≡ colour R m i)) i (o, refl)
      (λ k s t. (reach_on W t.0 (reach_one k), colour_trace k t.0.on ∙ t.1)) j r).1
    where
      W : World places (trace R) (places_in R Q)
      W = mirror_world (mirrored R L (places_in R Q) (places_in_part L K))

pub colour_flip : {R : Rotation} → Lawful R → (m : ℕ → ℕ) (s : ℕ) → (colour R m (flip R s) + colour R m s) % 2 ≡ 1
unfolding colour
colour_flip {R} L m s =
    let v = vertex_flip L s in
    rw v (elim (place s) [
      | is_step_lem h ↦ let t = mirror_type R s in rw (flip_step R s h) (omega arith)
      | is_still h ↦ rw (flip_still R s h) (omega arith)
    ])
