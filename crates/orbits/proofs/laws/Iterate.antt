-- Steps of a map, and its finite order. A map that is injective below N and stays there brings each number back.
--     iter_zero, iter_suc, iter_step, iter_add    no step; one more, at the end or at the start; some and then others
--     iter_low, iter_inj, iter_keeps              steps stay below N, are injective, and keep what f keeps
--     Period, period                              the least number of steps, at least one, after which i comes back
--     period_apart                                until then all points differ
--     meeting                                     the first time that the steps from i meet t
--     period_on, period_le                        it is at most the number of points of any set that f stays in, so at most N
use Rattle.std.specs.Prelude.{◌≡◌, refl, ◌≢◌, Bool, true, ℕ, zero, suc, ◌+◌, ◌-◌, ◌<◌, ◌≤◌}
use Rattle.std.proofs.Common.{sym, ◌∙◌, ap, add-zero, add-suc, lt_irrefl, arith}
use Rattle.std.proofs.Math.Logic.Dec as Dec
use Rattle.std.proofs.Math.Decide.{ℕ_discrete, dec_lt}
use Rattle.orbits.proofs.laws.Truth.{First, first, found, none}
use Rattle.orbits.specs.Count.{count}
use Rattle.orbits.proofs.laws.Count.{count_all, count_le, count_into}
use Rattle.orbits.specs.Iterate.{iter, Inj}

pub iter_zero : (f : ℕ → ℕ) (i : ℕ) → iter f zero i ≡ i
unfolding iter
iter_zero f i = refl

pub iter_suc : (f : ℕ → ℕ) (k i : ℕ) → iter f (suc k) i ≡ f (iter f k i)
unfolding iter
iter_suc f k i = refl

pub iter_step : (f : ℕ → ℕ) (k i : ℕ) → iter f (suc k) i ≡ iter f k (f i)
unfolding iter
iter_step f zero i = refl
iter_step f (suc k) i = ap f (iter_step f k i)

pub iter_add : (f : ℕ → ℕ) (a b i : ℕ) → iter f (a + b) i ≡ iter f b (iter f a i)
unfolding iter
iter_add f a zero i = rw add-zero
iter_add f a (suc b) i = rw (add-suc a b) (ap f (iter_add f a b i))

pub iter_low : {N : ℕ} {f : ℕ → ℕ} → Inj N f → (k i : ℕ) → i < N → iter f k i < N
unfolding iter
iter_low I zero i h = h
iter_low I (suc k) i h = I.fwd _ (iter_low I k i h)

pub iter_inj : {N : ℕ} {f : ℕ → ℕ} → Inj N f → (k i j : ℕ) → i < N → j < N → iter f k i ≡ iter f k j → i ≡ j
unfolding iter
iter_inj I zero i j h l e = e
iter_inj I (suc k) i j h l e = iter_inj I k i j h l (I.inj _ _ (iter_low I k i h) (iter_low I k j l) e)

-- a property that f keeps
pub iter_keeps : (P : ℕ → Type 0) (f : ℕ → ℕ) → ((i : ℕ) → P i → P (f i)) → (k i : ℕ) → P i → P (iter f k i)
unfolding iter
iter_keeps P f step zero i p = p
iter_keeps P f step (suc k) i p = step (iter f k i) (iter_keeps P f step k i p)

pub record Period (f : ℕ → ℕ) (i : ℕ) : Type 0 where
  pub steps : ℕ
  pub some : zero < steps
  pub back : iter f steps i ≡ i
  pub least : (k : ℕ) → zero < k → k < steps → iter f k i ≢ i

-- no return in fewer than n steps: the first n points are apart
laps_apart : {N : ℕ} {f : ℕ → ℕ} → Inj N f → (i n : ℕ) → i < N → ((k : ℕ) → zero < k → k < n → iter f k i ≢ i)
    → (a b : ℕ) → a < n → b < n → iter f a i ≡ iter f b i → a ≡ b
laps_apart {N} {f} I i n h out a b l m e = elim (ℕ_discrete a b) [
  | yes s ↦ s
  | no s ↦ elim (dec_lt a b) [
    | yes r ↦ absurd (early a b r m e)
    | no r ↦ absurd (early b a (omega arith) l (sym e))
  ]
]
  where
    early : (a b : ℕ) → a < b → b < n → iter f a i ≡ iter f b i → ⊥
    early a b r m e =
        let sum : (b - a) + a ≡ b = omega arith in
        let lap : iter f a i ≡ iter f a (iter f (b - a) i) = e ∙ ap (λ k. iter f k i) (sym sum) ∙ iter_add f (b - a) a i in
        out (b - a) (omega arith) (omega arith) (sym (iter_inj I a i (iter f (b - a) i) h (iter_low I (b - a) i h) lap))

pub period_apart : {N : ℕ} {f : ℕ → ℕ} → Inj N f → {i : ℕ} → i < N → (p : Period f i) → (a b : ℕ) → a < p.steps → b < p.steps
    → iter f a i ≡ iter f b i → a ≡ b
period_apart I {i} h p = laps_apart I i p.steps h p.least

-- the first time, from one step on and before n, that the steps from i meet t
pub meeting : (f : ℕ → ℕ) (i t n : ℕ) → First (λ k. (zero < k) × (iter f k i ≡ t)) n
meeting f i t n = first (λ k. (zero < k) × (iter f k i ≡ t)) (λ k. Dec.and (dec_lt zero k) (ℕ_discrete (iter f k i) t)) n

pub period : {N : ℕ} {f : ℕ → ℕ} → Inj N f → (i : ℕ) → i < N → Period f i
period {N} {f} I i h = by (meeting f i i (suc N))
  where
    -- the pigeonhole: no return in N steps would make N + 1 points below N
    crowd : ((k : ℕ) → k < suc N → ¬ ((zero < k) × (iter f k i ≡ i))) → count (λ k. true) (suc N) ≤ count (λ k. true) N
    crowd out =
        count_into (λ k s. iter f k i ≡ s) (λ k. true) (λ k. true) (suc N) N
        (λ k l t. record { to = iter f k i; low = iter_low I k i h; pass = refl; pair = refl })
        (λ a b s l m c t u w d e. laps_apart I i (suc N) h (λ k pos m z. out k m (pos, z)) a b l m (d ∙ sym e))

    by : First (λ k. (zero < k) × (iter f k i ≡ i)) (suc N) → Period f i
    by (found k l p before) = record { steps = k; some = p.0; back = p.1; least = λ j pos m z. before j m (pos, z) }
    by (none out) = absurd (lt_irrefl N (omega (arith, crowd out, count_all (λ k. true) (suc N) (λ k l. refl), count_le (λ k. true) N)))

pub period_on : {N : ℕ} {f : ℕ → ℕ} → Inj N f → (live : ℕ → Bool) → ((i : ℕ) → i < N → live i ≡ true → live (f i) ≡ true)
    → {i : ℕ} → i < N → live i ≡ true → (p : Period f i) → p.steps ≤ count live N
period_on {N} {f} I live keep {i} h on p = omega (arith, into, count_all (λ k. true) p.steps (λ k l. refl))
  where
    stays : (k : ℕ) → (iter f k i < N) × (live (iter f k i) ≡ true)
    stays k = iter_keeps (λ s. (s < N) × (live s ≡ true)) f (λ s q. (I.fwd s q.0, keep s q.0 q.1)) k i (h, on)

    into : count (λ k. true) p.steps ≤ count live N
    into =
        count_into (λ k s. iter f k i ≡ s) (λ k. true) live p.steps N
        (λ k l t. record { to = iter f k i; low = (stays k).0; pass = (stays k).1; pair = refl })
        (λ a b s l m c t u w d e. period_apart I h p a b l m (d ∙ sym e))

pub period_le : {N : ℕ} {f : ℕ → ℕ} → Inj N f → {i : ℕ} → i < N → (p : Period f i) → p.steps ≤ N
period_le {N} I h p = omega (arith, period_on I (λ k. true) (λ j l t. t) h refl p, count_le (λ k. true) N)
