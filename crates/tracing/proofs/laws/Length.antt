-- The number of steps of a walk: it is back at its start, dart and type, then and not before,
-- "within twice as many steps as edges".
--     ClosedWalk, walk_closed      the walk is back at its start after its steps, and not before
--     walk_bound                   it has at most twice as many steps as there are edges
--     live_step, live_step_count   the steps on live darts: four for each live edge
--     walk_length                  the walk's number of steps is its start's period
use Rattle.std.specs.Prelude.{ℕ, zero, suc, ◌*◌, ◌/◌, ◌<◌, ◌≤◌, ◌≡◌, refl, Bool, true, false, ◌&&◌, ◌≢◌, ltb, length}
use native.Mathlib.Omega.{arith}
use Rattle.std.proofs.Common.{sym, ◌∙◌, lt-ltb, le-ltb}
use Rattle.std.proofs.Math.Path.{ap}
use Rattle.table.specs.Layout.{darts, edges}
use Rattle.table.specs.Rotation.{Rotation, Lawful}
use Rattle.orbits.specs.Count.{count, more_if}
use Rattle.orbits.proofs.laws.Count.{count_same, count_short}
use Rattle.orbits.specs.Iterate.{iter}
use Rattle.orbits.proofs.laws.Iterate.{iter_zero, iter_suc, iter_low, Period}
use Rattle.orbits.proofs.laws.Mirror.{period_half}
use Rattle.tracing.specs.Step.{steps, step, other_type}
use Rattle.tracing.proofs.laws.Step.{type?, is_zero, is_one, step_live, step_word, mirror_live, mirror_word}
use Rattle.tracing.proofs.laws.Place.{places, trace, on, place, is_step_lem, is_still, trace_step, trace_still, flip_step, flip_still, on_step, rev_still}
use Rattle.tracing.specs.Walk.{walk}
use Rattle.tracing.proofs.laws.Walk.{run_length, walk_run, walk_period, walk_period_le, step_inj}
use Rattle.tracing.proofs.laws.Mirrored.{Part, mirrored}
use Rattle.tracing.specs.Met.{edge_count}

-- the steps on live darts
unfoldable pub live_step : Rotation → ℕ → Bool
live_step R s = ltb s steps && R.live (s / 2)

-- a test on halves passes twice as often
count_halves : (p : ℕ → Bool) (n : ℕ) → count (λ s. p (s / 2)) (2 * n) ≡ 2 * count p n
unfolding count
count_halves p zero = refl
count_halves p (suc n) =
    let double : 2 * suc n ≡ suc (suc (2 * n)) = omega arith in
    let low : 2 * n / 2 ≡ n = omega arith in
    let high : suc (2 * n) / 2 ≡ n = omega arith in
    rw (double, low, high, count_halves p n) (twice (p n) (count p n))
  where
    twice : (b : Bool) (k : ℕ) → more_if b (more_if b (2 * k)) ≡ 2 * more_if b k
    twice true k = omega arith
    twice false k = refl

module _ (R : Rotation) where
  step_is_live : (s : ℕ) → s < steps → live_step R s ≡ R.live (s / 2)
  unfolding live_step
  step_is_live s h = rw (lt-ltb s steps h)

  still_is_not : (s : ℕ) → steps ≤ s → live_step R s ≡ false
  unfolding live_step
  still_is_not s h = rw (le-ltb s steps h)

module _ (R : Rotation) (L : Lawful R) where
  live_steps : Part R (live_step R)
  live_steps = record {
    traced = λ s h. elim (place s) [
      | is_step_lem l ↦ rw (trace_step R s l, step_is_live R s l, step_is_live R (step R s) (step_word R L s l)) (step_live R L s)
      | is_still l ↦ rw (trace_still R s l)
    ];
    flipped = λ s h. elim (place s) [
      | is_step_lem l ↦
          let m = mirror_word R L s l in
          rw (flip_step R s l, step_is_live R s l) (step_is_live R _ m ∙ mirror_live R L s)
      | is_still l ↦ rw (flip_still R s l, still_is_not R s l) (still_is_not R (other_type s) (rev_still s l))
    ];
    within = λ s h e. elim (place s) [
      | is_step_lem l ↦ on_step R s l ∙ sym (step_is_live R s l) ∙ e
      | is_still l ↦
          let z : ◌≡◌ {A = Bool} true false = sym e ∙ still_is_not R s l in
          let y : ◌≡◌ {A = ℕ} 0 1 = cc in
          absurd (omega arith)
    ];
  }

  -- both darts of an edge are live, or neither
  edge_live : (d : ℕ) → R.live d ≡ R.live (2 * (d / 2))
  edge_live d = elim (type? d) [
    | is_zero e ↦ ap R.live (omega arith)
    | is_one e ↦ sym (L.live_rev d) ∙ ap R.live (omega arith)
  ]

  -- each live edge has four steps
  pub live_step_count : count (live_step R) places ≡ 4 * edge_count R
  unfolding edge_count
  live_step_count =
      count_short (live_step R) steps places (omega arith) (λ s l h. still_is_not R s l)
      ∙ count_same (live_step R) (λ s. R.live (s / 2)) steps (step_is_live R)
      ∙ count_halves R.live darts
      ∙ ap (λ k. 2 * k) (count_same R.live (λ d. R.live (2 * (d / 2))) darts (λ d h. edge_live d) ∙ count_halves (λ e. R.live (2 * e)) edges)
      ∙ omega arith

  iter_trace : (k s : ℕ) → s < steps → iter (trace R) k s ≡ iter (step R) k s
  iter_trace zero s h = iter_zero (trace R) s ∙ sym (iter_zero (step R) s)
  iter_trace (suc k) s h =
      iter_suc (trace R) k s ∙ ap (trace R) (iter_trace k s h) ∙ trace_step R (iter (step R) k s) (iter_low (step_inj R L) k s h)
      ∙ sym (iter_suc (step R) k s)

  -- the walk's number of steps is its start's period
  pub record ClosedWalk (s : ℕ) : Type 0 where
    pub some : 0 < length (walk R s)
    pub back : iter (step R) (length (walk R s)) s ≡ s
    pub first : (k : ℕ) → 0 < k → k < length (walk R s) → iter (step R) k s ≢ s

  walk_length : (s : ℕ) → s < steps → (p : Period (step R) s) → length (walk R s) ≡ p.steps
  walk_length s h p = ap length (walk_run R s p (walk_period_le R L s h p)) ∙ run_length (step R) s p.steps

  -- "A walk ends when both dart and type are those of its start": there, and not before
  pub walk_closed : (s : ℕ) → s < steps → ClosedWalk s
  walk_closed s h =
      let p = walk_period R L s h in
      let e = walk_length s h p in
      record { some = rw e p.some; back = rw e p.back; first = rw e p.least }

  -- "It is back at its start within twice as many steps as edges."
  pub walk_bound : (s : ℕ) → s < steps → R.live (s / 2) ≡ true → length (walk R s) ≤ 2 * edge_count R
  walk_bound s h l =
      let p = walk_period R L s h in
      let e = walk_length s h p in
      let traced : Period (trace R) s =
      record { steps = p.steps; some = p.some; back = iter_trace p.steps s h ∙ p.back; least = λ k a b. rw (iter_trace k s h) (p.least k a b) } in
      let half = period_half (mirrored R L (live_step R) live_steps) (record { lt = omega arith; on = step_is_live R s h ∙ l }) traced in
      let four = live_step_count in
      omega arith
