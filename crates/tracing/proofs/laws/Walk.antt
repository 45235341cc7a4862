-- A walk: the steps from a start up to the first return to it, dart and type, document 01, "Corners and walks".
-- The definition computes; `walk_run` says that it is the run of as many steps as its start's period under `step`.
--     iterates, run_suc, run_length    the first n steps of f from s
--     onward_rest, onward_run          going on to the first return gives that run
--     walk_run                         a walk is the run of its start's period
--     step_inj                         no two steps lead to one
--     walk_period, walk_period_le      each walk comes back to its start, within the number of step words
use Prim.Native.Nat.{ℕ, zero, suc, ◌+◌, ◌<◌, ◌≤◌}
use Rattle.std.proofs.Common.{arith, sym, ◌∙◌, ap, append_assoc, length-append, eq-eqb, ne_eqb}
use Rattle.std.proofs.Math.Decide.{ℕ_discrete}
use Rattle.std.specs.Prelude.{◌≡◌, refl, List, [], ◌∷◌, ◌++◌, ◌≢◌, length}
use Rattle.table.specs.Rotation.{Rotation, Lawful}
use Rattle.orbits.specs.Iterate.{iter, Inj}
use Rattle.orbits.proofs.laws.Iterate.{iter_suc, Period, period, period_le}
use Rattle.tracing.specs.Step.{steps, step, mirror}
use Rattle.tracing.proofs.laws.Step.{step_word, step_turn}
use Rattle.tracing.specs.Walk.{onward, walk}

-- the first n steps of f from s
unfoldable pub iterates : (ℕ → ℕ) → ℕ → ℕ → List ℕ
iterates f s zero = []
iterates f s (suc n) = iterates f s n ++ (iter f n s ∷ [])

pub run_suc : (f : ℕ → ℕ) (s n : ℕ) → iterates f s (suc n) ≡ iterates f s n ++ (iter f n s ∷ [])
unfolding iterates
run_suc f s n = refl

pub run_length : (f : ℕ → ℕ) (s n : ℕ) → length (iterates f s n) ≡ n
unfolding iterates
run_length f s zero = refl
run_length f s (suc n) = let r = run_length f s n in simp length-append (omega arith)

module _ (f : ℕ → ℕ) (s : ℕ) where
  onward_last : (n i : ℕ) → f i ≡ s → onward f s (suc n) i ≡ i ∷ []
  unfolding onward
  onward_last n i e = rw (eq-eqb (f i) s e)

  onward_more : (n i : ℕ) → f i ≢ s → onward f s (suc n) i ≡ i ∷ onward f s n (f i)
  unfolding onward
  onward_more n i e = rw (ne_eqb (f i) s e)

  pub onward_rest : (p : Period f s) (n k : ℕ) → k < p.steps → p.steps ≤ k + n → iterates f s k ++ onward f s n (iter f k s) ≡ iterates f s p.steps
  onward_rest p zero k h l = absurd (omega arith)
  onward_rest p (suc n) k h l = elim (ℕ_discrete (suc k) p.steps) [
    | yes e ↦
        let back : f (iter f k s) ≡ s = sym (iter_suc f k s) ∙ ap (λ j. iter f j s) e ∙ p.back in
        rw (onward_last n (iter f k s) back) (sym (run_suc f s k) ∙ ap (iterates f s) e)
    | no e ↦
        let early : f (iter f k s) ≢ s = λ b. p.least (suc k) (omega arith) (omega arith) (iter_suc f k s ∙ b) in
        let rest = onward_rest p n (suc k) (omega arith) (omega arith) in
        rw (onward_more n (iter f k s) early, ← iter_suc f k s)
        (sym (append_assoc (iterates f s k) (iter f k s ∷ []) _) ∙ ap (λ l. l ++ onward f s n (iter f (suc k) s)) (sym (run_suc f s k)) ∙ rest)
  ]

  pub onward_run : (p : Period f s) (n : ℕ) → p.steps ≤ n → onward f s n s ≡ iterates f s p.steps
  unfolding iterates iter
  onward_run p n h = onward_rest p n zero p.some (omega arith)

module _ (R : Rotation) where
  pub walk_run : (s : ℕ) (p : Period (step R) s) → p.steps ≤ steps → walk R s ≡ iterates (step R) s p.steps
  unfolding walk
  walk_run s p h = onward_run (step R) s p steps h

module _ (R : Rotation) (L : Lawful R) where
  -- a step has an inverse, its mirror's
  pub step_inj : Inj steps (step R)
  step_inj = record {
    fwd = λ s h. step_word R L s h;
    inj = λ i j h l e. sym (step_turn R L i) ∙ ap (λ s. mirror R (step R (mirror R s))) e ∙ step_turn R L j;
  }

  -- each walk comes back to its start
  pub walk_period : (s : ℕ) → s < steps → Period (step R) s
  walk_period s h = period step_inj s h

  pub walk_period_le : (s : ℕ) → s < steps → (p : Period (step R) s) → p.steps ≤ steps
  walk_period_le s h p = period_le step_inj h p
