-- Which listed walk a corner is on: one of them meets it, and no two starts are on one face.
--     Covered, covered           the listed walk that meets the corner of a live dart
--     starts_one                 two starts on one face are one
--     lone_apart, lones_apart    an isolated vertex's face has no dart, and no other such vertex
--     corner_face                a step is on the face of its corner
use Rattle.std.specs.Prelude.{ℕ, ◌*◌, ◌<◌, ◌≤◌, ◌≡◌, refl}
use Rattle.std.proofs.Common.{arith, sym, ◌∙◌, ap}
use Rattle.std.proofs.Math.Decide.{ℕ_discrete, dec_lt}
use Rattle.std.proofs.Math.Bool.{true, false, not}
use Rattle.table.specs.Layout.{darts}
use Rattle.table.specs.Rotation.{Rotation, Lawful}
use Rattle.orbits.proofs.laws.Truth.{truth, holds, fails, clash, both}
use Rattle.orbits.proofs.laws.Reach.{reach_here}
use Rattle.orbits.specs.Faces.{Face, along, mirrored}
use Rattle.orbits.proofs.laws.Faces.{face_flip}
use Rattle.tracing.specs.Step.{steps, corner}
use Rattle.tracing.proofs.laws.Step.{corner_dart}
use Rattle.tracing.proofs.laws.Place.{trace, flip, on, flip_step, flip_still}
use Rattle.tracing.specs.Walk.{corners}
use Rattle.tracing.specs.Listing.{has, met_by, starts}
use Rattle.tracing.proofs.laws.Has.{has_gathered, has_gather}
use Rattle.tracing.proofs.laws.Mirrored.{whole, mirrored as tracing-mirror}
use Rattle.tracing.proofs.laws.Meets.{has_corners, corners_has, still_reach, trace_reach, at_corner, plain, turned}
use Rattle.tracing.proofs.laws.Starts.{start?, start_unmet, has_start, start_has}

-- the listed walk that meets the corner of dart c
pub record Covered (R : Rotation) (c : ℕ) : Type 0 where
  pub at : ℕ
  pub low : at < darts
  pub start : start? R at ≡ true
  pub face : Face (trace R) (flip R) (2 * at) (2 * c)

module _ (R : Rotation) (L : Lawful R) where
  -- "take darts upward, and start at (d, 0) wherever corner d has not been met": so each corner is met
  pub covered : (c : ℕ) → R.live c ≡ true → Covered R c
  unfolding start?
  covered c l = elim (truth (has c (met_by R (starts R c)))) [
    | holds m ↦
        let s = has_gathered (λ d. corners R (2 * d)) (starts R c) c m in
        let b = has_start R c s.at s.among in
        let before = b.low in
        let low = L.dart_low c l in
        record { at = s.at; low = omega arith; start = b.start; face = has_corners R L (2 * s.at) c (omega arith) low s.gives }
    | fails m ↦ record { at = c; low = L.dart_low c l; start = is_start m; face = along reach_here }
  ]
    where
      is_start : has c (met_by R (starts R c)) ≡ false → start? R c ≡ true
      is_start m = both l (ap not m)

  -- a start is on no face of an earlier one
  starts_apart : (a b : ℕ) → a < b → b < darts → start? R a ≡ true → start? R b ≡ true → Face (trace R) (flip R) (2 * a) (2 * b) → ⊥
  starts_apart a b h l s t f =
      clash
      (has_gather (λ d. corners R (2 * d)) (starts R b) a b (start_has R b a h s) (corners_has R L (2 * a) b (omega arith) l f))
      (start_unmet R b t)

  pub starts_one : (a b : ℕ) → a < darts → b < darts → start? R a ≡ true → start? R b ≡ true → Face (trace R) (flip R) (2 * a) (2 * b) → a ≡ b
  starts_one a b h l s t f = elim (ℕ_discrete a b) [
    | yes e ↦ e
    | no e ↦ elim (dec_lt a b) [
      | yes m ↦ absurd (starts_apart a b m l s t f)
      | no m ↦ absurd (starts_apart b a (omega arith) h t s (face_flip (tracing-mirror R L (on R) (whole R L)) (omega arith) (omega arith) f))
    ]
  ]

  -- no face has both darts and an isolated vertex
  pub lone_apart : (a b : ℕ) → a < darts → darts ≤ b → Face (trace R) (flip R) (2 * a) (2 * b) → ⊥
  lone_apart a b h l (along r) = let low = (trace_reach R L {s = 2 * a} (omega arith) r).low in omega arith
  lone_apart a b h l (mirrored r) =
      let low = (trace_reach R L {s = 2 * a} (omega arith) r).low in
      let turn = flip_still R (2 * b) (omega arith) in
      omega arith

  pub lones_apart : (a b : ℕ) → darts ≤ a → darts ≤ b → Face (trace R) (flip R) (2 * a) (2 * b) → a ≡ b
  lones_apart a b h l (along r) = let same = still_reach R L {s = 2 * a} (omega arith) r in omega arith
  lones_apart a b h l (mirrored r) =
      let same = still_reach R L {s = 2 * a} (omega arith) r in
      let turn = flip_still R (2 * b) (omega arith) in
      absurd (omega arith)

  -- each place is on the face of its corner's type-0 place
  pub corner_face : (s : ℕ) → s < steps → Face (trace R) (flip R) s (2 * corner R s)
  corner_face s h = elim (at_corner R L (corner R s) s refl) [
    | plain q ↦ rw (← q) (along reach_here)
    | turned q ↦
        let low : corner R s < darts = corner_dart R L s h in
        let turn : flip R (2 * corner R s) ≡ s = flip_step R (2 * corner R s) (omega arith) ∙ sym q in
        mirrored (rw turn reach_here)
  ]
