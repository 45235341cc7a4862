-- Tracing past an edge: each of its four steps only goes on around its own vertex, as if the edge were cut. This is the mirrored
-- exchange of tracing at the edge's two sides: the step by the first dart with type 0, and the step by the second dart that
-- runs along the other side.
--     parity_low, parity_type                                   the parity of the edge's turns is a type
--     near_far, near_low, far_low                               the two sides (`TwoSides`)
--     through, through_own, through_other                       tracing past the edge, and its values
--     trace_near, trace_far, trace_near_back, trace_far_back    where tracing takes the edge's four steps
--     near_back, far_back, far_back_back, own_four              the opposites of these; they are all of its steps
--     through_exchanged                                         it is tracing, exchanged at the two sides
use Rattle.std.specs.Prelude.{◌≡◌, ◌≢◌, true, cond, ℕ, ◌+◌, ◌-◌, ◌*◌, ◌/◌, ◌%◌, ◌<◌}
use Rattle.std.proofs.Common.{sym, ◌∙◌, ap}
use Rattle.std.proofs.Math.Decide.{ℕ_discrete}
use native.Mathlib.Omega.{arith}
use Rattle.table.specs.Layout.{edge_of, rev}
use Rattle.table.specs.Rotation.{Rotation, Lawful}
use Rattle.tracing.specs.Step.{steps, step_type, step, around, back}
use Rattle.tracing.proofs.laws.Step.{Type?, type?, is_zero, is_one, step_word, mirror_step}
use Rattle.tracing.proofs.laws.Place.{places, trace, flip, trace_step, flip_step}
use Rattle.surgery.specs.Without.{apart}
use Rattle.surgery.proofs.laws.Without.{apart_own, apart_other}
use Rattle.surgery.proofs.laws.Exchanged.{Exchanged}
use Rattle.surgery.specs.Change.{parity}
use Rattle.surgery.proofs.laws.TwoSides.{near, far}

pub parity_low : (R : Rotation) (e : ℕ) → parity R e < 2
parity_low R e = omega arith

pub parity_type : (R : Rotation) (e : ℕ) → Type? (parity R e)
parity_type R e = type? (R.turns (2 * e))

-- sums of two types
bit_same : {p : ℕ} → Type? p → (0 + p) % 2 ≡ p
bit_same (is_zero z) = omega arith
bit_same (is_one z) = omega arith

bit_other : {p : ℕ} → Type? p → (1 + p) % 2 ≡ 1 - p
bit_other (is_zero z) = omega arith
bit_other (is_one z) = omega arith

bit_even : {p : ℕ} → Type? p → (p + p) % 2 ≡ 0
bit_even (is_zero z) = omega arith
bit_even (is_one z) = omega arith

bit_odd : {p : ℕ} → Type? p → (1 - p + p) % 2 ≡ 1
bit_odd (is_zero z) = omega arith
bit_odd (is_one z) = omega arith

pub near_far : (R : Rotation) (e : ℕ) → near e ≢ far R e
near_far R e = omega arith

unfoldable pub through : Rotation → ℕ → ℕ → ℕ
through R e s = cond (apart e (s / 2)) (trace R s) (around R (s % 2) (s / 2))

pub through_own : (R : Rotation) (e s : ℕ) → edge_of (s / 2) ≡ e → through R e s ≡ around R (s % 2) (s / 2)
unfolding through
through_own R e s q = rw (apart_own e (s / 2) q)

pub through_other : (R : Rotation) (e s : ℕ) → edge_of (s / 2) ≢ e → through R e s ≡ trace R s
unfolding through
through_other R e s n = rw (apart_other e (s / 2) n)

module _ (R : Rotation) (L : Lawful R) (e : ℕ) (live : R.live (2 * e) ≡ true) where
  -- the two darts have the same turns
  own_turns : (d : ℕ) → edge_of d ≡ e → R.turns d ≡ R.turns (2 * e)
  own_turns d q = elim (ℕ_discrete d (2 * e)) [
    | yes s ↦ ap R.turns s
    | no n ↦
        let s : d ≡ rev (2 * e) = omega arith in
        ap R.turns s ∙ L.turns_rev (2 * e)
  ]

  own_low : (s : ℕ) → edge_of (s / 2) ≡ e → s < steps
  own_low s q = let l = L.dart_low (2 * e) live in omega arith

  pub near_low : near e < places
  near_low = let l = L.dart_low (2 * e) live in omega arith

  pub far_low : far R e < places
  far_low = let l = L.dart_low (2 * e) live in let p = parity_low R e in omega arith

  -- the step by dart d with type t, which arrives with type k at the dart r
  record Own (s d t k r : ℕ) : Type 0 where
    place : s ≡ 2 * d + t
    edge : edge_of d ≡ e
    type : t < 2
    new : (t + parity R e) % 2 ≡ k
    end : rev d ≡ r

  own_type : {s d t k r : ℕ} → Own s d t k r → step_type R s ≡ k
  unfolding step_type
  own_type {s} {d} {t} o =
      let p = o.place in
      let l = o.type in
      let half : s / 2 ≡ d = omega arith in
      rw (half, own_turns d o.edge) (omega (arith, o.new))

  own_trace : {s d t k r : ℕ} → Own s d t k r → trace R s ≡ around R k r
  unfolding step
  own_trace {s} {d} {t} {k} {r} o =
      let p = o.place in
      let l = o.type in
      let q = o.edge in
      let half : s / 2 ≡ d = omega arith in
      rw (trace_step R s (own_low s (omega arith)), own_type o, half, o.end)

  -- its opposite
  own_back : {s d t k r : ℕ} → Own s d t k r → flip R (trace R s) ≡ 2 * r + (1 - k)
  unfolding back
  own_back {s} {d} {t} {k} {r} o =
      let p = o.place in
      let l = o.type in
      let q = o.edge in
      let half : s / 2 ≡ d = omega arith in
      let h = own_low s (omega arith) in
      rw (trace_step R s h, flip_step R (step R s) (step_word R L s h)) (mirror_step R L s ∙ rw (own_type o, half, o.end))

  own_through : {s d t k r : ℕ} → Own s d t k r → through R e s ≡ around R t d
  own_through {s} {d} {t} o =
      let p = o.place in
      let l = o.type in
      let q = o.edge in
      let half : s / 2 ≡ d = omega arith in
      let type : s % 2 ≡ t = omega arith in
      through_own R e s (omega arith) ∙ rw (half, type)

  -- the four steps of the edge, where each leads, and its opposite

  at_near : Own (near e) (2 * e) 0 (parity R e) (2 * e + 1)
  at_near = record { place = omega arith; edge = omega arith; type = omega arith; new = bit_same (parity_type R e); end = omega arith }

  at_far : Own (far R e) (2 * e + 1) (parity R e) 0 (2 * e)
  at_far = record { place = omega arith; edge = omega arith; type = parity_low R e; new = bit_even (parity_type R e); end = omega arith }

  at_near_back : Own (4 * e + 2 + (1 - parity R e)) (2 * e + 1) (1 - parity R e) 1 (2 * e)
  at_near_back = record { place = omega arith; edge = omega arith; type = omega arith; new = bit_odd (parity_type R e); end = omega arith }

  at_far_back : Own (near e + 1) (2 * e) 1 (1 - parity R e) (2 * e + 1)
  at_far_back = record { place = omega arith; edge = omega arith; type = omega arith; new = bit_other (parity_type R e); end = omega arith }

  pub trace_near : trace R (near e) ≡ around R (parity R e) (2 * e + 1)
  trace_near = own_trace at_near

  pub trace_far : trace R (far R e) ≡ around R 0 (2 * e)
  trace_far = own_trace at_far

  pub trace_near_back : trace R (4 * e + 2 + (1 - parity R e)) ≡ around R 1 (2 * e)
  trace_near_back = own_trace at_near_back

  pub trace_far_back : trace R (near e + 1) ≡ around R (1 - parity R e) (2 * e + 1)
  trace_far_back = own_trace at_far_back

  pub near_back : flip R (trace R (near e)) ≡ 4 * e + 2 + (1 - parity R e)
  near_back = own_back at_near ∙ omega arith

  pub far_back : flip R (trace R (far R e)) ≡ near e + 1
  far_back = own_back at_far ∙ omega arith

  pub far_back_back : flip R (trace R (near e + 1)) ≡ far R e
  far_back_back = own_back at_far_back ∙ omega arith

  -- these are all of its steps
  pub own_four : (s : ℕ) → s ≢ near e → s ≢ far R e → s ≢ 4 * e + 2 + (1 - parity R e) → s ≢ near e + 1 → edge_of (s / 2) ≢ e
  own_four s p q r t = elim (parity_type R e) [ is_zero z ↦ omega arith | is_one z ↦ omega arith ]

  pub through_exchanged : Exchanged (trace R) (flip R) (through R e) (near e) (far R e) (4 * e + 2 + (1 - parity R e)) (near e + 1)
  through_exchanged = record {
    over = near_back;
    home = far_back;
    x_u = omega arith;
    x_v = omega arith;
    y_u = elim (parity_type R e) [ is_zero z ↦ omega arith | is_one z ↦ omega arith ];
    y_v = omega arith;
    at_x = own_through at_near ∙ sym trace_far;
    at_y = own_through at_far ∙ sym trace_near;
    at_u = own_through at_near_back ∙ sym trace_far_back;
    at_v = own_through at_far_back ∙ sym trace_near_back;
    beside = λ i p q r s. through_other R e i (own_four i p q r s);
  }
