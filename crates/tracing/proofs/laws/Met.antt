-- "listed walks meet every corner once": a corner that is there is met once, and no other corner word is met.
use Rattle.std.specs.Prelude.{ℕ, ◌*◌, ◌/◌, ◌<◌, ◌≡◌, true}
use Rattle.std.proofs.Common.{arith, ◌∙◌}
use Rattle.std.proofs.Math.Path.{sym}
use Rattle.table.specs.Rotation.{Rotation, Lawful}
use Rattle.orbits.proofs.laws.Truth.{false_unless}
use Rattle.orbits.proofs.laws.Orbits.{reach_on}
use Rattle.orbits.proofs.laws.Mirror.{mirror_world}
use Rattle.tracing.specs.Step.{steps, corner}
use Rattle.tracing.proofs.laws.Step.{corner_live, corner_dart}
use Rattle.tracing.proofs.laws.Place.{on, on_step}
use Rattle.tracing.specs.Walk.{walk, corners}
use Rattle.tracing.specs.Listing.{has}
use Rattle.tracing.proofs.laws.Has.{has_empty, has_cons, here, later, has_gathered, has_mapped, times_none}
use Rattle.tracing.specs.Met.{times, listed_corners, corners_of}
use Rattle.tracing.proofs.laws.Mirrored.{whole, mirrored as tracing-mirror}
use Rattle.tracing.proofs.laws.Meets.{has_walk, trace_reach}
use Rattle.tracing.proofs.laws.Once.{corners_of_dart, corners_of_lone, from_dart, from_lone, listed_face, start_step, step_on, dart_corner_once, lone_corner_once}
use Rattle.tracing.specs.Corner.{Present, at_dart, at_lone}

module _ (R : Rotation) (L : Lawful R) where
  pub present_once : (c : ℕ) → Present R c → times c (listed_corners R) ≡ 1
  present_once c (at_dart h l) = dart_corner_once R L c l
  present_once c (at_lone v h e a) = rw e (lone_corner_once R L v a)

  -- the corners of a walk over live darts are there
  walk_present : (s c : ℕ) → s < steps → R.live (s / 2) ≡ true → has c (corners R s) ≡ true → Present R c
  unfolding corners
  walk_present s c h l e =
      let W = mirror_world (tracing-mirror R L (on R) (whole R L)) in
      let m = has_mapped (corner R) (walk R s) c e in
      let r = has_walk R L s m.at h m.among in
      let low = (trace_reach R L h r).low in
      let live = corner_live R L m.at ∙ sym (on_step R m.at low) ∙ (reach_on W (step_on R L s h l) r).on in
      rw (← m.gives) (at_dart (corner_dart R L m.at low) live)

  met_present : (c : ℕ) → has c (listed_corners R) ≡ true → Present R c
  unfolding listed_corners
  met_present c e =
      let s = has_gathered (corners_of R) _ c e in
      elim (listed_face R L s.at s.among) [
        | from_dart low start ↦
            walk_present (2 * s.at) c (omega arith) (start_step R L s.at start) (rw (corners_of_dart R L s.at (omega arith)) at s.gives)
        | from_lone v low a q ↦ elim (has_cons c s.at _ (rw (corners_of_lone R L s.at (omega arith)) at s.gives)) [
          | here p ↦ at_lone v low (p ∙ q) a
          | later p ↦ absurd (has_empty c p)
        ]
      ]

  pub absent_never : (c : ℕ) → (Present R c → ⊥) → times c (listed_corners R) ≡ 0
  absent_never c n = times_none c (listed_corners R) (false_unless _ (λ e. n (met_present c e)))
