-- Two rotation systems with the same darts in the same order around each vertex. They have the same mirror, and the same
-- tracing wherever the turns of the edge have the same parity.
--     alike_around, alike_flip    the same steps around a dart; the same mirror
--     alike_trace                 the same tracing, where the turns have the same parity
use Rattle.std.specs.Prelude.{◌≡◌, ℕ, ◌+◌, ◌/◌, ◌%◌}
use Rattle.std.proofs.Common.{sym, ◌∙◌, ap}
use Rattle.std.proofs.Math.Path.{fun_ext}
use native.Mathlib.Omega.{arith}
use Rattle.table.specs.Layout.{rev}
use Rattle.table.specs.Rotation.{Rotation, Lawful}
use Rattle.tracing.proofs.laws.Step.{Type?, is_zero, is_one, type?, around_next, around_prev}
use Rattle.tracing.specs.Step.{step_type, step, mirror, around}
use Rattle.tracing.proofs.laws.Place.{trace, flip, place, is_step_lem, is_still, trace_step, trace_still, flip_step, flip_still}
use Rattle.surgery.proofs.laws.Spin.{other_type_lem}
use Rattle.surgery.specs.Alike.{Alike}

module _ {R R₁ : Rotation} (L : Lawful R) (L₁ : Lawful R₁) (A : Alike R R₁) where
  alike_prev : (d : ℕ) → R₁.prev d ≡ R.prev d
  alike_prev d = ap R₁.prev (sym (A.next (R.prev d) ∙ L.next_prev d)) ∙ L₁.prev_next (R.prev d)

  pub alike_around : {t : ℕ} → Type? t → (d : ℕ) → around R₁ t d ≡ around R t d
  alike_around {t} (is_zero z) d = rw (around_next R₁ t d z, around_next R t d z, A.next d)
  alike_around {t} (is_one z) d = rw (around_prev R₁ t d z, around_prev R t d z, alike_prev d)

  pub alike_flip : flip R₁ ≡ flip R
  unfolding mirror
  alike_flip = fun_ext (λ s. elim (place s) [
    | is_step_lem h ↦ rw (flip_step R₁ s h, flip_step R s h) (alike_around (other_type_lem (type? s)) (s / 2))
    | is_still h ↦ rw (flip_still R₁ s h, flip_still R s h)
  ])

  pub alike_trace : (s : ℕ) → R₁.turns (s / 2) % 2 ≡ R.turns (s / 2) % 2 → trace R₁ s ≡ trace R s
  unfolding step step_type
  alike_trace s q = elim (place s) [
    | is_step_lem h ↦
        let type : (s + R₁.turns (s / 2)) % 2 ≡ (s + R.turns (s / 2)) % 2 = omega arith in
        rw (trace_step R₁ s h, trace_step R s h, type) (alike_around (type? (s + R.turns (s / 2))) (rev (s / 2)))
    | is_still h ↦ rw (trace_still R₁ s h, trace_still R s h)
  ]
