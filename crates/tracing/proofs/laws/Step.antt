-- One step of a walk, its mirror and its corner, document 01, "Corners and walks", over a rotation system.
-- A step is the word 2d+t of the listing: dart d with trace type t. The laws hold for every word, also of a dart that is not live.
--     Type?, type_of_lem, type?                               a type is 0 or 1
--     around_next, around_prev, around_type                   the step around a dart, by its type
--     step_low, step_type_lem, step_live, step_word           a step's type, and that it stays among live darts
--     step_back, step_turn, step_other                        a step is the way back, mirrored; what undoes it; it is not its mirror
--     mirror_zero, mirror_one, mirror_type, mirror_other      the mirror of a step, by its type
--     mirror_mirror, mirror_step, mirror_live, mirror_word    mirrored twice; the mirror of the step after
--     back_dart, back_type, back_other, back_back             the way back along the edge
--     corner_zero, corner_one, corner_mirror                  the corner of a step, by its type, and of its mirror
--     corner_live, corner_dart, next_dart_lem, prev_dart_lem  corners, next and previous stay darts
use Rattle.std.specs.Prelude.{ℕ, zero, suc, ◌+◌, ◌-◌, ◌*◌, ◌/◌, ◌%◌, ◌<◌, ◌≡◌, refl, ◌≢◌}
use native.Mathlib.Omega.{arith}
use Rattle.std.proofs.Common.{sym, ◌∙◌, ap, eq-eqb, ne_eqb}
use Rattle.table.specs.Layout.{rev, darts}
use Rattle.table.specs.Rotation.{Rotation, Lawful}
use Rattle.table.specs.laws.Lawful.{rev_rev, rev_low}
use Rattle.orbits.proofs.laws.Truth.{truth, holds, fails}
use Rattle.tracing.specs.Step.{steps, step_type, around, step, corner, mirror, back}

-- a type is 0 or 1
pub data Type? (t : ℕ) : Type 0 where
  is_zero : t ≡ 0 → Type? t
  is_one : t ≡ 1 → Type? t

pub type_of_lem : (t : ℕ) → t < 2 → Type? t
type_of_lem zero h = is_zero refl
type_of_lem (suc zero) h = is_one refl
type_of_lem (suc (suc t)) h = absurd (omega arith)

pub type? : (n : ℕ) → Type? (n % 2)
type? n = type_of_lem (n % 2) (omega arith)

module _ (R : Rotation) where
  pub around_next : (t d : ℕ) → t ≡ 0 → around R t d ≡ 2 * R.next d
  unfolding around
  around_next t d e = rw (eq-eqb t 0 e)

  pub around_prev : (t d : ℕ) → t ≡ 1 → around R t d ≡ 2 * R.prev d + 1
  unfolding around
  around_prev t d e = rw (ne_eqb t 0 (λ z. omega arith))

  pub step_low : (s : ℕ) → step_type R s < 2
  unfolding step_type
  step_low s = omega arith

  -- the type and the dart of a step around a dart
  pub around_type : (t d : ℕ) → Type? t → around R t d % 2 ≡ t
  around_type t d (is_zero e) = rw (around_next t d e) (omega arith)
  around_type t d (is_one e) = rw (around_prev t d e) (omega arith)

  pub step_type_lem : (s : ℕ) → step R s % 2 ≡ step_type R s
  unfolding step step_type
  step_type_lem s = around_type (step_type R s) (rev (s / 2)) (type? (s + R.turns (s / 2)))

  pub mirror_type : (s : ℕ) → mirror R s % 2 ≡ 1 - s % 2
  unfolding mirror
  mirror_type s = go (type? s)
    where
      go : Type? (s % 2) → around R (1 - s % 2) (s / 2) % 2 ≡ 1 - s % 2
      go (is_zero e) = around_type (1 - s % 2) (s / 2) (is_one (omega arith))
      go (is_one e) = around_type (1 - s % 2) (s / 2) (is_zero (omega arith))

  pub mirror_zero : (s : ℕ) → s % 2 ≡ 0 → mirror R s ≡ 2 * R.prev (s / 2) + 1
  unfolding mirror
  mirror_zero s e = around_prev (1 - s % 2) (s / 2) (omega arith)

  pub mirror_one : (s : ℕ) → s % 2 ≡ 1 → mirror R s ≡ 2 * R.next (s / 2)
  unfolding mirror
  mirror_one s e = around_next (1 - s % 2) (s / 2) (omega arith)

  pub corner_zero : (s : ℕ) → s % 2 ≡ 0 → corner R s ≡ s / 2
  unfolding corner
  corner_zero s e = rw (eq-eqb (s % 2) 0 e)

  pub corner_one : (s : ℕ) → s % 2 ≡ 1 → corner R s ≡ R.next (s / 2)
  unfolding corner
  corner_one s e = rw (ne_eqb (s % 2) 0 (λ z. omega arith))

  -- a mirror is another step: its type differs
  pub mirror_other : (s : ℕ) → mirror R s ≢ s
  mirror_other s e =
      let m = mirror_type s in
      let q : mirror R s % 2 ≡ s % 2 = ap (λ n. n % 2) e in
      omega arith

  -- a step goes back along its edge and turns to the other sense
  pub step_back : (s : ℕ) → step R s ≡ mirror R (back R s)
  unfolding step mirror back
  step_back s =
      let low = step_low s in
      let dart : (2 * rev (s / 2) + (1 - step_type R s)) / 2 ≡ rev (s / 2) = omega arith in
      let type : 1 - (2 * rev (s / 2) + (1 - step_type R s)) % 2 ≡ step_type R s = omega arith in
      rw (dart, type)

  pub back_dart : (s : ℕ) → back R s / 2 ≡ rev (s / 2)
  unfolding back
  back_dart s = let low = step_low s in omega arith

  pub back_type : (s : ℕ) → back R s % 2 ≡ 1 - step_type R s
  unfolding back
  back_type s = let low = step_low s in omega arith

  pub back_other : (s : ℕ) → back R s ≢ s
  back_other s e =
      let b = back_dart s in
      let q : back R s / 2 ≡ s / 2 = ap (λ n. n / 2) e in
      omega arith

module _ (R : Rotation) (L : Lawful R) where
  pub mirror_mirror : (s : ℕ) → mirror R (mirror R s) ≡ s
  mirror_mirror s = go (type? s)
    where
      go : Type? (s % 2) → mirror R (mirror R s) ≡ s
      go (is_zero e) =
          let half : (2 * R.prev (s / 2) + 1) / 2 ≡ R.prev (s / 2) = omega arith in
          rw (mirror_zero R s e) (mirror_one R (2 * R.prev (s / 2) + 1) (omega arith) ∙ rw (half, L.next_prev (s / 2)) (omega arith))
      go (is_one e) =
          let half : 2 * R.next (s / 2) / 2 ≡ R.next (s / 2) = omega arith in
          rw (mirror_one R s e) (mirror_zero R (2 * R.next (s / 2)) (omega arith) ∙ rw (half, L.prev_next (s / 2)) (omega arith))

  back_step_type : (s : ℕ) → step_type R (back R s) ≡ 1 - s % 2
  unfolding step_type
  back_step_type s =
      let type : back R s % 2 ≡ 1 - (s + R.turns (s / 2)) % 2 = back_type R s in
      let turned : R.turns (back R s / 2) ≡ R.turns (s / 2) = rw (back_dart R s) (L.turns_rev (s / 2)) in
      rw turned (omega arith)

  -- going back along the edge twice
  pub back_back : (s : ℕ) → back R (back R s) ≡ s
  back_back s =
      let type = back_type R (back R s) in
      let again = back_step_type s in
      let dart : back R (back R s) / 2 ≡ s / 2 = back_dart R (back R s) ∙ rw (back_dart R s) (rev_rev (s / 2)) in
      omega arith

  -- a step, mirrored, stepped and mirrored again, is undone
  pub step_turn : (s : ℕ) → mirror R (step R (mirror R (step R s))) ≡ s
  step_turn s =
      rw (step_back R s, mirror_mirror (back R s), step_back R (back R s), mirror_mirror (back R (back R s)))
      (back_back s)

  -- the mirror of a step is the step that goes back
  pub mirror_step : (s : ℕ) → mirror R (step R s) ≡ back R s
  mirror_step s = rw (step_back R s) (mirror_mirror (back R s))

  -- a step is not its mirror: it is on the way back along another dart
  pub step_other : (s : ℕ) → step R s ≢ mirror R s
  step_other s e =
      back_other R s (sym (mirror_mirror (back R s)) ∙ ap (mirror R) (sym (step_back R s) ∙ e) ∙ mirror_mirror s)

  -- a step and its mirror are at one corner
  pub corner_mirror : (s : ℕ) → corner R (mirror R s) ≡ corner R s
  corner_mirror s = go (type? s)
    where
      go : Type? (s % 2) → corner R (mirror R s) ≡ corner R s
      go (is_zero e) =
          let half : (2 * R.prev (s / 2) + 1) / 2 ≡ R.prev (s / 2) = omega arith in
          rw (mirror_zero R s e, corner_zero R s e) (corner_one R (2 * R.prev (s / 2) + 1) (omega arith) ∙ rw half (L.next_prev (s / 2)))
      go (is_one e) =
          rw (mirror_one R s e, corner_one R s e) (corner_zero R (2 * R.next (s / 2)) (omega arith) ∙ (omega arith))

  -- around a vertex darts stay live, and stay darts

  live_prev : (d : ℕ) → R.live (R.prev d) ≡ R.live d
  live_prev d = sym (L.live_next (R.prev d)) ∙ ap R.live (L.next_prev d)

  pub next_dart_lem : (d : ℕ) → d < darts → R.next d < darts
  next_dart_lem d h = elim (truth (R.live d)) [
    | holds e ↦ L.dart_low (R.next d) (L.live_next d ∙ e)
    | fails e ↦ rw (L.still d e) h
  ]

  pub prev_dart_lem : (d : ℕ) → d < darts → R.prev d < darts
  prev_dart_lem d h = elim (truth (R.live d)) [
    | holds e ↦ L.dart_low (R.prev d) (live_prev d ∙ e)
    | fails e ↦
        let same : R.prev d ≡ d = ap R.prev (sym (L.still d e)) ∙ L.prev_next d in
        rw same h
  ]

  around_dart : (t d : ℕ) → Type? t → R.live (around R t d / 2) ≡ R.live d
  around_dart t d (is_zero e) =
      let half : 2 * R.next d / 2 ≡ R.next d = omega arith in
      rw (around_next R t d e, half) (L.live_next d)
  around_dart t d (is_one e) =
      let half : (2 * R.prev d + 1) / 2 ≡ R.prev d = omega arith in
      rw (around_prev R t d e, half) (live_prev d)

  around_low : (t d : ℕ) → Type? t → d < darts → around R t d < steps
  around_low t d (is_zero e) h = let n = next_dart_lem d h in rw (around_next R t d e) (omega arith)
  around_low t d (is_one e) h = let n = prev_dart_lem d h in rw (around_prev R t d e) (omega arith)

  pub step_live : (s : ℕ) → R.live (step R s / 2) ≡ R.live (s / 2)
  unfolding step step_type
  step_live s = around_dart ((s + R.turns (s / 2)) % 2) (rev (s / 2)) (type? (s + R.turns (s / 2))) ∙ L.live_rev (s / 2)

  pub step_word : (s : ℕ) → s < steps → step R s < steps
  unfolding step step_type
  step_word s h = around_low ((s + R.turns (s / 2)) % 2) (rev (s / 2)) (type? (s + R.turns (s / 2))) (rev_low (s / 2) (omega arith))

  pub mirror_live : (s : ℕ) → R.live (mirror R s / 2) ≡ R.live (s / 2)
  unfolding mirror
  mirror_live s = around_dart (1 - s % 2) (s / 2) (other (type? s))
    where
      other : {t : ℕ} → Type? t → Type? (1 - t)
      other (is_zero e) = is_one (omega arith)
      other (is_one e) = is_zero (omega arith)

  pub mirror_word : (s : ℕ) → s < steps → mirror R s < steps
  mirror_word s h = elim (type? s) [
    | is_zero e ↦ let n = prev_dart_lem (s / 2) (omega arith) in rw (mirror_zero R s e) (omega arith)
    | is_one e ↦ let n = next_dart_lem (s / 2) (omega arith) in rw (mirror_one R s e) (omega arith)
  ]

  pub corner_live : (s : ℕ) → R.live (corner R s) ≡ R.live (s / 2)
  corner_live s = elim (type? s) [
    | is_zero e ↦ rw (corner_zero R s e)
    | is_one e ↦ rw (corner_one R s e) (L.live_next (s / 2))
  ]

  pub corner_dart : (s : ℕ) → s < steps → corner R s < darts
  corner_dart s h = elim (type? s) [
    | is_zero e ↦ rw (corner_zero R s e) (omega arith)
    | is_one e ↦ rw (corner_one R s e) (next_dart_lem (s / 2) (omega arith))
  ]
