-- The places of a tracing: the step words, and for each isolated vertex two still places, one for each type.
-- Tracing permutes the places that are there, and the mirror at each corner undoes it: what the counts of faces rest on.
--     places, Place, place                              how many there are; step words and still places
--     trace, trace_step, trace_still                    one step on, or no move at a still place
--     flip, flip_step, flip_still                       the other sense at the same corner
--     on, on_step, on_still                             is the place there: a live dart, or an isolated vertex
--     rev_still, rev_vertex                             the two still places of a vertex
--     trace_low, flip_low, on_trace, on_flip            both stay among the places that are there
--     flip_flip, flip_other, trace_other, trace_turn    the laws of a mirror
use Rattle.std.specs.Prelude.{ℕ, ◌+◌, ◌-◌, ◌*◌, ◌/◌, ◌<◌, ◌≤◌, ◌≡◌, Bool, cond, ◌≢◌, ltb}
use Rattle.std.proofs.Common.{arith, ◌∙◌, ap, lt-ltb, le-ltb, ltb-true, ltb-false}
use Rattle.table.specs.Layout.{vertices}
use Rattle.table.specs.Rotation.{Rotation, Lawful}
use Rattle.orbits.proofs.laws.Truth.{truth, holds, fails}
use Rattle.tracing.specs.Step.{steps, step, mirror, other_type}
use Rattle.tracing.proofs.laws.Step.{is_zero, is_one, type?, step_word, mirror_word, step_live, mirror_live, mirror_mirror, mirror_other, step_other, step_turn}

-- 4,096 step words, then two still places for each of 512 vertices
abbrev pub places : ℕ
places = steps + 2 * vertices

-- a step goes on; "an isolated vertex gives one empty walk", which stays where it is
unfoldable pub trace : Rotation → ℕ → ℕ
trace R s = cond (ltb s steps) (step R s) s

-- the other sense at the same corner
unfoldable pub flip : Rotation → ℕ → ℕ
flip R s = cond (ltb s steps) (mirror R s) (other_type s)

-- the dart is live, or the vertex is isolated
unfoldable pub on : Rotation → ℕ → Bool
on R s = cond (ltb s steps) (R.live (s / 2)) (R.alone ((s - steps) / 2))

pub data Place (s : ℕ) : Type 0 where
  is_step_lem : s < steps → Place s
  is_still : steps ≤ s → Place s

pub place : (s : ℕ) → Place s
place s = elim (truth (ltb s steps)) [
  | holds e ↦ is_step_lem (ltb-true s steps e)
  | fails e ↦ is_still (ltb-false s steps e)
]

-- the two still places of a vertex
pub rev_still : (s : ℕ) → steps ≤ s → steps ≤ other_type s
rev_still s h = omega arith

pub rev_vertex : (s : ℕ) → steps ≤ s → (other_type s - steps) / 2 ≡ (s - steps) / 2
rev_vertex s h = elim (type? s) [
  | is_zero e ↦ let d : s ≡ 2 * (s / 2) = omega arith in omega arith
  | is_one e ↦ let d : s ≡ 2 * (s / 2) + 1 = omega arith in omega arith
]

module _ (R : Rotation) where
  pub trace_step : (s : ℕ) → s < steps → trace R s ≡ step R s
  unfolding trace
  trace_step s h = rw (lt-ltb s steps h)

  pub trace_still : (s : ℕ) → steps ≤ s → trace R s ≡ s
  unfolding trace
  trace_still s h = rw (le-ltb s steps h)

  pub flip_step : (s : ℕ) → s < steps → flip R s ≡ mirror R s
  unfolding flip
  flip_step s h = rw (lt-ltb s steps h)

  pub flip_still : (s : ℕ) → steps ≤ s → flip R s ≡ other_type s
  unfolding flip
  flip_still s h = rw (le-ltb s steps h)

  pub on_step : (s : ℕ) → s < steps → on R s ≡ R.live (s / 2)
  unfolding on
  on_step s h = rw (lt-ltb s steps h)

  pub on_still : (s : ℕ) → steps ≤ s → on R s ≡ R.alone ((s - steps) / 2)
  unfolding on
  on_still s h = rw (le-ltb s steps h)

module _ (R : Rotation) (L : Lawful R) where
  pub trace_low : (s : ℕ) → s < places → trace R s < places
  trace_low s l = elim (place s) [
    | is_step_lem h ↦ let w = step_word R L s h in rw (trace_step R s h) (omega arith)
    | is_still h ↦ rw (trace_still R s h) l
  ]

  pub flip_low : (s : ℕ) → s < places → flip R s < places
  flip_low s l = elim (place s) [
    | is_step_lem h ↦ let w = mirror_word R L s h in rw (flip_step R s h) (omega arith)
    | is_still h ↦ rw (flip_still R s h) (omega arith)
  ]

  pub flip_flip : (s : ℕ) → flip R (flip R s) ≡ s
  flip_flip s = elim (place s) [
    | is_step_lem h ↦ rw (flip_step R s h) (flip_step R (mirror R s) (mirror_word R L s h) ∙ mirror_mirror R L s)
    | is_still h ↦ rw (flip_still R s h) (flip_still R (other_type s) (rev_still s h) ∙ omega arith)
  ]

  pub flip_other : (s : ℕ) → flip R s ≢ s
  flip_other s = elim (place s) [
    | is_step_lem h ↦ rw (flip_step R s h) (mirror_other R s)
    | is_still h ↦ rw (flip_still R s h) (omega arith)
  ]

  pub trace_other : (s : ℕ) → trace R s ≢ flip R s
  trace_other s = elim (place s) [
    | is_step_lem h ↦ rw (trace_step R s h, flip_step R s h) (step_other R L s)
    | is_still h ↦ rw (trace_still R s h, flip_still R s h) (omega arith)
  ]

  -- tracing, turned to the other sense, is undone by tracing
  pub trace_turn : (s : ℕ) → flip R (trace R (flip R (trace R s))) ≡ s
  trace_turn s = elim (place s) [
    | is_step_lem h ↦
        let a = step_word R L s h in
        let b = mirror_word R L (step R s) a in
        let c = step_word R L (mirror R (step R s)) b in
        rw (trace_step R s h, flip_step R (step R s) a, trace_step R (mirror R (step R s)) b, flip_step R (step R (mirror R (step R s))) c)
        (step_turn R L s)
    | is_still h ↦
        rw (trace_still R s h, flip_still R s h, trace_still R (other_type s) (rev_still s h), flip_still R (other_type s) (rev_still s h))
        (omega arith)
  ]

  pub on_trace : (s : ℕ) → on R (trace R s) ≡ on R s
  on_trace s = elim (place s) [
    | is_step_lem h ↦ rw (trace_step R s h, on_step R s h, on_step R (step R s) (step_word R L s h)) (step_live R L s)
    | is_still h ↦ rw (trace_still R s h)
  ]

  pub on_flip : (s : ℕ) → on R (flip R s) ≡ on R s
  on_flip s = elim (place s) [
    | is_step_lem h ↦ rw (flip_step R s h, on_step R s h, on_step R (mirror R s) (mirror_word R L s h)) (mirror_live R L s)
    | is_still h ↦
        rw (flip_still R s h, on_still R s h, on_still R (other_type s) (rev_still s h)) (ap R.alone (rev_vertex s h))
  ]
