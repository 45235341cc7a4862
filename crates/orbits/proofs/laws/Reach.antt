-- Being on one orbit: some number of steps of f takes i to j. Below N, for a map that is injective there, this is an
-- equivalence, and it is decided by trying fewer than N steps.
--     reach_here, reach_one, reach_step       no step, one step, one step more
--     reach_trans, reach_sym, reach_back      it is an equivalence, and the orbit comes back
--     reach_ind                               what holds at i and is kept by a step along the orbit holds on the whole orbit
--     reach_by, reach_agree                   a way of f is a way of g, where g leads along each of its steps
--     reach_low, reach_within, reach_below    it stays below N; fewer steps than the period are enough, so fewer than N
--     reach_says, says_reach, reach_dec       the test passes exactly if i reaches j
use Rattle.std.specs.Prelude.{◌≡◌, refl, true, ℕ, zero, suc, ◌+◌, ◌<◌, pred, eqb}
use Rattle.std.proofs.Common.{sym, ◌∙◌, ap, subst, lt_of_lt_of_le, arith, eq-eqb, eqb-true, lt-ltb, ltb-true}
use Rattle.std.proofs.Math.Decide.{dec_lt}
use Rattle.orbits.proofs.laws.Truth.{truth, holds, fails, clash}
use Rattle.orbits.proofs.laws.Count.{count_find, count_some}
use Rattle.orbits.specs.Iterate.{iter, Inj}
use Rattle.orbits.proofs.laws.Iterate.{iter_zero, iter_suc, iter_step, iter_add, iter_low, Period, period, period_le}
use Rattle.orbits.specs.Reach.{Reach, Within, reaches}

pub reach_here : {f : ℕ → ℕ} {i : ℕ} → Reach f i i
reach_here {f} {i} = record { steps = zero; lands = iter_zero f i }

pub reach_step : {f : ℕ → ℕ} {i j : ℕ} → Reach f i j → Reach f i (f j)
reach_step {f} {i} r = record { steps = suc r.steps; lands = iter_suc f r.steps i ∙ ap f r.lands }

pub reach_one : {f : ℕ → ℕ} (i : ℕ) → Reach f i (f i)
reach_one i = reach_step reach_here

pub reach_trans : {f : ℕ → ℕ} {i j k : ℕ} → Reach f i j → Reach f j k → Reach f i k
reach_trans {f} {i} r s = record {
  steps = r.steps + s.steps;
  lands = iter_add f r.steps s.steps i ∙ ap (iter f s.steps) r.lands ∙ s.lands;
}

pub reach_ind : (f : ℕ → ℕ) (P : ℕ → Type 0) (i : ℕ) → P i → ((j : ℕ) → Reach f i j → P j → P (f j)) → (j : ℕ) → Reach f i j → P j
unfolding iter
reach_ind f P i base step j r = rw r.lands at (along r.steps)
  where
    along : (k : ℕ) → P (iter f k i)
    along zero = base
    along (suc k) = step (iter f k i) (record { steps = k; lands = refl }) (along k)

-- numbers that f keeps among P: where g leads from each of them to the next, it leads along the whole way of f
record On (P : ℕ → Type 0) (g : ℕ → ℕ) (i j : ℕ) : Type 0 where
  passes : P j
  way : Reach g i j

pub reach_by : {f g : ℕ → ℕ} (P : ℕ → Type 0) → ((i : ℕ) → P i → P (f i)) → ((i : ℕ) → P i → Reach g i (f i)) → (i j : ℕ) → P i → Reach f i j → Reach g i j
reach_by {f} {g} P keep leads i j p r =
    (reach_ind f (On P g i) i (record { passes = p; way = reach_here }) (λ k s o. record { passes = keep k o.passes; way = reach_trans o.way (leads k o.passes) }) j r).way

-- the same, where g agrees with f
pub reach_agree : {f g : ℕ → ℕ} (P : ℕ → Type 0) → ((i : ℕ) → P i → P (f i)) → ((i : ℕ) → P i → g i ≡ f i) → (i j : ℕ) → P i → Reach f i j → Reach g i j
reach_agree {g = g} P keep agree = reach_by P keep (λ i p. subst (Reach g i) (agree i p) (reach_one i))

pub reach_low : {N : ℕ} {f : ℕ → ℕ} → Inj N f → {i j : ℕ} → i < N → Reach f i j → j < N
reach_low I {i} h r = rw r.lands at (iter_low I r.steps i h)

-- the orbit comes back to where it started
pub reach_back : {N : ℕ} {f : ℕ → ℕ} → Inj N f → (i : ℕ) → i < N → Reach f (f i) i
reach_back {N} {f} I i h =
    let p = period I i h in
    let s : suc (pred p.steps) ≡ p.steps = omega arith in
    record { steps = pred p.steps; lands = sym (iter_step f (pred p.steps) i) ∙ ap (λ k. iter f k i) s ∙ p.back }

pub reach_sym : {N : ℕ} {f : ℕ → ℕ} → Inj N f → {i j : ℕ} → i < N → Reach f i j → Reach f j i
reach_sym {N} {f} I {i} {j} h r =
    reach_ind f (λ k. Reach f k i) i reach_here (λ k s back. reach_trans (reach_back I k (reach_low I h s)) back) j r

pub reach_within : {f : ℕ → ℕ} {i j : ℕ} (p : Period f i) → Reach f i j → Within f i j p.steps
reach_within {f} {i} {j} p r =
    reach_ind f (λ k. Within f i k p.steps) i
    (record { steps = zero; few = p.some; lands = iter_zero f i })
    (λ k s w. elim (dec_lt (suc w.steps) p.steps) [
      | yes l ↦ record { steps = suc w.steps; few = l; lands = iter_suc f w.steps i ∙ ap f w.lands }
      | no l ↦
          let few = w.few in
          let last : p.steps ≡ suc w.steps = omega arith in
          record {
            steps = zero;
            few = p.some;
            lands = iter_zero f i ∙ sym p.back ∙ ap (λ k. iter f k i) last ∙ iter_suc f w.steps i ∙ ap f w.lands;
          }
    ])
    j r

pub reach_below : {N : ℕ} {f : ℕ → ℕ} → Inj N f → {i j : ℕ} → i < N → Reach f i j → Within f i j N
reach_below I {i} h r =
    let p = period I i h in
    let w = reach_within p r in
    record { steps = w.steps; few = lt_of_lt_of_le w.few (period_le I h p); lands = w.lands }

pub says_reach : (f : ℕ → ℕ) (N i j : ℕ) → reaches f N i j ≡ true → Reach f i j
unfolding reaches
says_reach f N i j e =
    let hit = count_find (λ k. eqb (iter f k i) j) N (ltb-true _ _ e) in
    record { steps = hit.at; lands = eqb-true _ _ hit.pass }

pub reach_says : {N : ℕ} {f : ℕ → ℕ} → Inj N f → {i j : ℕ} → i < N → Reach f i j → reaches f N i j ≡ true
unfolding reaches
reach_says {N} {f} I {i} {j} h r =
    let w = reach_below I h r in
    lt-ltb _ _ (count_some (λ k. eqb (iter f k i) j) N w.steps w.few (eq-eqb _ _ w.lands))

pub reach_dec : {N : ℕ} {f : ℕ → ℕ} → Inj N f → (i j : ℕ) → i < N → Dec (Reach f i j)
reach_dec {N} {f} I i j h = elim (truth (reaches f N i j)) [
  | holds t ↦ yes (says_reach f N i j t)
  | fails t ↦ no (λ r. clash (reach_says I h r) t)
]
