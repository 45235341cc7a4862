-- Once around a vertex, in either sense: the dart after d for type 0, the one before it for type 1. What holds of both is said once.
--     spin, spin_next, spin_prev        the map
--     around_spin                       the step around a dart is the spun dart with that type
--     spin_inj, spin_live, spin_from    it is injective, and keeps live darts and the vertex
--     spin_reach                        the live darts of a vertex are one cycle of it
--     trace_spin, flip_spin             tracing and the mirror, by the spin
--     other_type_lem, step_type?        a step's type and the other one are types
use Rattle.std.specs.Prelude.{◌≡◌, true, cond, ℕ, ◌+◌, ◌-◌, ◌*◌, ◌/◌, ◌%◌, ◌<◌, eqb}
use Rattle.std.proofs.Common.{sym, ◌∙◌, ap, arith, eq-eqb, ne_eqb}
use Rattle.std.proofs.Math.Path.{fun_ext}
use Rattle.table.specs.Layout.{rev}
use Rattle.table.specs.Rotation.{Rotation, Lawful}
use Rattle.orbits.specs.Reach.{Reach}
use Rattle.orbits.proofs.laws.Reach.{reach_here, reach_one, reach_trans, reach_ind}
use Rattle.tracing.specs.Step.{steps, step_type, step, around, mirror}
use Rattle.tracing.proofs.laws.Step.{Type?, is_zero, is_one, type?, around_next, around_prev}
use Rattle.tracing.proofs.laws.Place.{trace, flip, trace_step, flip_step}

unfoldable pub spin : Rotation → ℕ → ℕ → ℕ
spin R t d = cond (eqb t 0) (R.next d) (R.prev d)

pub other_type_lem : {t : ℕ} → Type? t → Type? (1 - t)
other_type_lem (is_zero e) = is_one (omega arith)
other_type_lem (is_one e) = is_zero (omega arith)

module _ (R : Rotation) where
  pub spin_next : {t : ℕ} → t ≡ 0 → spin R t ≡ R.next
  unfolding spin
  spin_next {t} e = fun_ext (λ d. rw (eq-eqb t 0 e))

  pub spin_prev : {t : ℕ} → t ≡ 1 → spin R t ≡ R.prev
  unfolding spin
  spin_prev {t} e = fun_ext (λ d. rw (ne_eqb t 0 (λ z. omega arith)))

  pub around_spin : {t : ℕ} → Type? t → (d : ℕ) → around R t d ≡ 2 * spin R t d + t
  around_spin {t} (is_zero e) d = rw (around_next R t d e, spin_next e) (omega arith)
  around_spin {t} (is_one e) d = rw (around_prev R t d e, spin_prev e) (omega arith)

  pub step_type? : (s : ℕ) → Type? (step_type R s)
  unfolding step_type
  step_type? s = type? (s + R.turns (s / 2))

  pub trace_spin : (s : ℕ) → s < steps → trace R s ≡ 2 * spin R (step_type R s) (rev (s / 2)) + step_type R s
  unfolding step
  trace_spin s h = trace_step R s h ∙ around_spin (step_type? s) (rev (s / 2))

  pub flip_spin : (s : ℕ) → s < steps → flip R s ≡ 2 * spin R (1 - s % 2) (s / 2) + (1 - s % 2)
  unfolding mirror
  flip_spin s h = flip_step R s h ∙ around_spin (other_type_lem (type? s)) (s / 2)

module _ {R : Rotation} (L : Lawful R) {t : ℕ} (T : Type? t) where
  pub spin_inj : (i j : ℕ) → spin R t i ≡ spin R t j → i ≡ j
  spin_inj i j = by T
    where
      by : Type? t → spin R t i ≡ spin R t j → i ≡ j
      by (is_zero e) q = sym (L.prev_next i) ∙ ap R.prev (rw (spin_next R e) at q) ∙ L.prev_next j
      by (is_one e) q = sym (L.next_prev i) ∙ ap R.next (rw (spin_prev R e) at q) ∙ L.next_prev j

  pub spin_live : (d : ℕ) → R.live (spin R t d) ≡ R.live d
  spin_live d = by T
    where
      by : Type? t → R.live (spin R t d) ≡ R.live d
      by (is_zero e) = rw (spin_next R e) (L.live_next d)
      by (is_one e) = rw (spin_prev R e) (sym (L.live_next (R.prev d)) ∙ ap R.live (L.next_prev d))

  pub spin_from : (d : ℕ) → R.from (spin R t d) ≡ R.from d
  spin_from d = by T
    where
      by : Type? t → R.from (spin R t d) ≡ R.from d
      by (is_zero e) = rw (spin_next R e) (L.from_next d)
      by (is_one e) = rw (spin_prev R e) (sym (L.from_next (R.prev d)) ∙ ap R.from (L.next_prev d))

  pub spin_reach : (d k : ℕ) → R.live d ≡ true → R.live k ≡ true → R.from d ≡ R.from k → Reach (spin R t) d k
  spin_reach d k l m q = by T
    where
      -- the cycle the other way
      reverse : (j : ℕ) → Reach R.next k j → Reach R.prev j k
      reverse j r =
          reach_ind R.next (λ i. Reach R.prev i k) k reach_here
          (λ i s w. reach_trans (rw (L.prev_next i) at (reach_one {f = R.prev} (R.next i))) w)
          j r

      by : Type? t → Reach (spin R t) d k
      by (is_zero e) = rw (spin_next R e) (L.one_cycle d k l m q)
      by (is_one e) = rw (spin_prev R e) (reverse d (L.one_cycle k d m l (sym q)))
