-- Which corners a walk meets: those whose places are on its orbit or on the mirror of it.
--     has_run, run_has                                 the points of a run of steps
--     AtCorner, at_corner, corner_of                   the two steps at a corner: (c, 0) and its mirror
--     Stepped, step_reach, trace_reach, still_reach    stepping and tracing agree on step words
--     has_walk, walk_has                               the steps of a walk are its orbit
--     has_corners, corners_has                         the corners of a walk are those of its face
use Rattle.std.specs.Prelude.{ℕ, zero, suc, ◌*◌, ◌/◌, ◌<◌, ◌≤◌, ◌≡◌, refl, true, [], ◌∷◌}
use Rattle.std.proofs.Common.{arith, sym, ◌∙◌, ap}
use Rattle.std.proofs.Math.Decide.{ℕ_discrete}
use Rattle.table.specs.Layout.{darts}
use Rattle.table.specs.Rotation.{Rotation, Lawful}
use Rattle.orbits.specs.Iterate.{iter}
use Rattle.orbits.specs.Reach.{Reach, Within}
use Rattle.orbits.proofs.laws.Reach.{reach_here, reach_step, reach_ind, reach_within}
use Rattle.orbits.specs.Faces.{Face, along, mirrored}
use Rattle.tracing.specs.Step.{steps, step, mirror, corner}
use Rattle.tracing.proofs.laws.Step.{type?, is_zero, is_one, mirror_zero, corner_zero, corner_one, corner_mirror, step_word}
use Rattle.tracing.proofs.laws.Place.{trace, flip, trace_step, trace_still, flip_step}
use Rattle.tracing.specs.Walk.{walk, corners}
use Rattle.tracing.proofs.laws.Walk.{iterates, walk_run, walk_period, walk_period_le}
use Rattle.tracing.specs.Listing.{has}
use Rattle.tracing.proofs.laws.Listing.{has_here}
use Rattle.tracing.proofs.laws.Has.{has_empty, has_parts, left, right, has_left, has_right, has_cons, here, later, has_map, has_mapped}

-- the points of a run of steps

pub has_run : (f : ℕ → ℕ) (s x n : ℕ) → has x (iterates f s n) ≡ true → Within f s x n
unfolding iterates
has_run f s x zero e = absurd (has_empty x e)
has_run f s x (suc n) e = elim (has_parts x (iterates f s n) (iter f n s ∷ []) e) [
  | left h ↦
      let w = has_run f s x n h in
      let few = w.few in
      record { steps = w.steps; few = omega arith; lands = w.lands }
  | right h ↦ elim (has_cons x (iter f n s) [] h) [
    | here q ↦ record { steps = n; few = omega arith; lands = sym q }
    | later h ↦ absurd (has_empty x h)
  ]
]

pub run_has : (f : ℕ → ℕ) (s x n : ℕ) → Within f s x n → has x (iterates f s n) ≡ true
unfolding iterates
run_has f s x zero w = let few = w.few in absurd (omega arith)
run_has f s x (suc n) w = elim (ℕ_discrete w.steps n) [
  | yes q ↦
      let last : iter f n s ≡ x = ap (λ k. iter f k s) (sym q) ∙ w.lands in
      has_right x (iterates f s n) (iter f n s ∷ []) (rw last (has_here x []))
  | no q ↦
      let few = w.few in
      has_left x (iterates f s n) (iter f n s ∷ []) (run_has f s x n (record { steps = w.steps; few = omega arith; lands = w.lands }))
]

-- a step at corner c is one of its two places
pub data AtCorner (R : Rotation) (c s : ℕ) : Type 0 where
  plain : s ≡ 2 * c → AtCorner R c s
  turned : s ≡ mirror R (2 * c) → AtCorner R c s

-- a step word on the orbit of s
pub record Stepped (R : Rotation) (s x : ℕ) : Type 0 where
  pub low : x < steps
  pub reach : Reach (step R) s x

module _ (R : Rotation) (L : Lawful R) where
  pub at_corner : (c s : ℕ) → corner R s ≡ c → AtCorner R c s
  at_corner c s e = elim (type? s) [
    | is_zero t ↦ let d = sym (corner_zero R s t) ∙ e in plain (omega arith)
    | is_one t ↦
        let before : R.prev c ≡ s / 2 = ap R.prev (sym e ∙ corner_one R s t) ∙ L.prev_next (s / 2) in
        let half : 2 * c / 2 ≡ c = omega arith in
        turned (sym (mirror_zero R (2 * c) (omega arith) ∙ rw (half, before) (omega arith)))
  ]

  pub corner_of : (c : ℕ) → corner R (2 * c) ≡ c
  corner_of c = corner_zero R (2 * c) (omega arith) ∙ omega arith

  -- stepping and tracing agree on step words

  pub step_reach : {s x : ℕ} → s < steps → Reach (step R) s x → Reach (trace R) s x
  step_reach {s} {x} h r = (both x r).1
    where
      both : (x : ℕ) → Reach (step R) s x → (x < steps) × Reach (trace R) s x
      both = reach_ind (step R) (λ k. (k < steps) × Reach (trace R) s k) s (h, reach_here)
          (λ k q b. (step_word R L k b.0, rw (← trace_step R k b.0) (reach_step b.1)))

  pub trace_reach : {s x : ℕ} → s < steps → Reach (trace R) s x → Stepped R s x
  trace_reach {s} {x} h r =
      reach_ind (trace R) (Stepped R s) s (record { low = h; reach = reach_here })
      (λ k q b. rw (trace_step R k b.low) (record { low = step_word R L k b.low; reach = reach_step b.reach })) x r

  pub still_reach : {s x : ℕ} → steps ≤ s → Reach (trace R) s x → x ≡ s
  still_reach {s} {x} h r = reach_ind (trace R) (λ k. k ≡ s) s refl (λ k q e. rw e (trace_still R s h)) x r

  -- the steps of a walk are its orbit

  pub has_walk : (s x : ℕ) → s < steps → has x (walk R s) ≡ true → Reach (trace R) s x
  has_walk s x h e =
      let p = walk_period R L s h in
      let w = has_run (step R) s x p.steps (rw (walk_run R s p (walk_period_le R L s h p)) at e) in
      step_reach h (record { steps = w.steps; lands = w.lands })

  pub walk_has : (s x : ℕ) → s < steps → Reach (trace R) s x → has x (walk R s) ≡ true
  walk_has s x h r =
      let p = walk_period R L s h in
      rw (walk_run R s p (walk_period_le R L s h p)) (run_has (step R) s x p.steps (reach_within p (trace_reach h r).reach))

  -- the corners of a walk are those of its face

  pub has_corners : (s c : ℕ) → s < steps → c < darts → has c (corners R s) ≡ true → Face (trace R) (flip R) s (2 * c)
  unfolding corners
  has_corners s c h l e =
      let i = has_mapped (corner R) (walk R s) c e in
      let r = has_walk s i.at h i.among in
      elim (at_corner c i.at i.gives) [
        | plain q ↦ along (rw q at r)
        | turned q ↦ mirrored (rw (flip_step R (2 * c) (omega arith)) (rw q at r))
      ]

  pub corners_has : (s c : ℕ) → s < steps → c < darts → Face (trace R) (flip R) s (2 * c) → has c (corners R s) ≡ true
  unfolding corners
  corners_has s c h l (along r) = rw (corner_of c) at (has_map (corner R) (walk R s) (2 * c) (walk_has s (2 * c) h r))
  corners_has s c h l (mirrored r) =
      let turn : flip R (2 * c) ≡ mirror R (2 * c) = flip_step R (2 * c) (omega arith) in
      let at : corner R (flip R (2 * c)) ≡ c = rw turn (corner_mirror R L (2 * c) ∙ corner_of c) in
      rw at at (has_map (corner R) (walk R s) (flip R (2 * c)) (walk_has s (flip R (2 * c)) h r))
