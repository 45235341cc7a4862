-- The walk in the other sense goes back along the same edges, in reverse order.
--     walk_mirror                                the walk from a step's mirror: the ways back of the steps, in reverse order
--     run_first                                  a run of steps is its first one and the run from the next
--     step_mirror, iter_mirror, period_mirror    steps and periods seen from the other sense
--     run_back                                   a run of steps in the other sense
use Prim.Native.Nat.{ℕ, zero, suc, ◌<◌}
use Rattle.std.specs.Prelude.{◌≡◌}
use Rattle.std.proofs.Math.Path.{refl, sym, ap}
use Rattle.std.proofs.Common.{◌∙◌}
use mathlib.Core.List.{[], ◌∷◌, ◌++◌, map, reverse, reverse-append, map-append}
use Rattle.orbits.specs.Iterate.{iter}
use Rattle.orbits.proofs.laws.Iterate.{iter_zero, iter_suc, iter_step, iter_low, iter_inj, Period}
use Rattle.table.specs.Rotation.{Rotation, Lawful}
use Rattle.tracing.specs.Step.{steps, step, mirror, back}
use Rattle.tracing.proofs.laws.Step.{step_back, back_back, mirror_step, mirror_mirror, mirror_word}
use Rattle.tracing.specs.Walk.{walk}
use Rattle.tracing.proofs.laws.Walk.{iterates, walk_run, walk_period, walk_period_le, step_inj}

-- a run is its first point, and the run from the next
pub run_first : (f : ℕ → ℕ) (s n : ℕ) → iterates f s (suc n) ≡ s ∷ iterates f (f s) n
unfolding iterates iter
run_first f s zero = refl
run_first f s (suc n) = ap (λ l. l ++ (iter f (suc n) s ∷ [])) (run_first f s n) ∙ ap (λ x. s ∷ (iterates f (f s) n ++ (x ∷ []))) (iter_step f n s)

module _ (R : Rotation) (L : Lawful R) where
  abbrev f : ℕ → ℕ
  f = step R

  -- the mirror of where a step leads, stepped, is the mirror of where it came from
  step_mirror : (x : ℕ) → f (mirror R (f x)) ≡ mirror R x
  step_mirror x = rw (mirror_step R L x) (step_back R (back R x) ∙ ap (mirror R) (back_back R L x))

  iter_mirror : (s n : ℕ) → iter f n (mirror R (iter f n s)) ≡ mirror R s
  iter_mirror s zero = iter_zero f (mirror R (iter f zero s)) ∙ ap (mirror R) (iter_zero f s)
  iter_mirror s (suc n) =
      iter_step f n (mirror R (iter f (suc n) s)) ∙ ap (λ x. iter f n (f (mirror R x))) (iter_suc f n s)
      ∙ ap (iter f n) (step_mirror (iter f n s)) ∙ iter_mirror s n

  period_mirror : (s : ℕ) → s < steps → Period f s → Period f (mirror R s)
  period_mirror s h p = record {
    steps = p.steps;
    some = p.some;
    back = ap (λ x. iter f p.steps (mirror R x)) (sym p.back) ∙ iter_mirror s p.steps;
    least = λ k a b e. p.least k a b (home k e);
  }
    where
      home : (k : ℕ) → iter f k (mirror R s) ≡ mirror R s → iter f k s ≡ s
      home k e =
          let there = iter_low (step_inj R L) k s h in
          let same = iter_inj (step_inj R L) k (mirror R (iter f k s)) (mirror R s) (mirror_word R L (iter f k s) there) (mirror_word R L s h) (iter_mirror s k ∙ sym e) in
          sym (mirror_mirror R L (iter f k s)) ∙ ap (mirror R) same ∙ mirror_mirror R L s

  run_back : (s n : ℕ) → iterates f (mirror R (iter f n s)) n ≡ reverse (map (back R) (iterates f s n))
  unfolding iterates
  run_back s zero = refl
  run_back s (suc n) =
      let x = iter f n s in
      let from : mirror R (iter f (suc n) s) ≡ back R x = ap (mirror R) (iter_suc f n s) ∙ mirror_step R L x in
      let next : f (back R x) ≡ mirror R x = ap f (sym (mirror_step R L x)) ∙ step_mirror x in
      let behind : reverse (map (back R) (iterates f s n ++ (x ∷ []))) ≡ back R x ∷ reverse (map (back R) (iterates f s n)) =
      ap reverse (map-append (back R) (iterates f s n) (x ∷ [])) ∙ reverse-append (map (back R) (iterates f s n)) (back R x ∷ []) in
      ap (λ y. iterates f y (suc n)) from ∙ run_first f (back R x) n ∙ ap (λ y. back R x ∷ iterates f y n) next
      ∙ ap (λ l. back R x ∷ l) (run_back s n) ∙ sym behind

  pub walk_mirror : (s : ℕ) → s < steps → walk R (mirror R s) ≡ reverse (map (back R) (walk R s))
  unfolding period_mirror
  walk_mirror s h =
      let p = walk_period R L s h in
      let few = walk_period_le R L s h p in
      walk_run R (mirror R s) (period_mirror s h p) few
      ∙ ap (λ x. iterates f (mirror R x) p.steps) (sym p.back) ∙ run_back s p.steps
      ∙ sym (ap (λ l. reverse (map (back R) l)) (walk_run R s p few))
