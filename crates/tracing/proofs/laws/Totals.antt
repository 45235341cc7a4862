-- What is summed over a walk: the same whichever step names the walk, and the same in the other sense if each step has as much as the way back along its edge.
--     total_named                 any step of the walk may name it
--     total_mirror                and either sense may
--     total_append, total_last    the sum over two lists; over a run of one step more
--     total_map, total_gather     the sum over what a function makes of each; over what is gathered from each
--     total_most, total_least     where each has at most m, or at least m, the sum is so to m times the length
--     period_next                 a step and the next one come back after as many steps
use Rattle.std.specs.Prelude.{ℕ, zero, suc, ◌+◌, ◌*◌, ◌<◌, ◌≤◌, ◌≡◌, refl, true, length}
use native.Mathlib.Omega.{arith}
use Rattle.std.proofs.Math.Path.{sym, ap}
use Rattle.std.proofs.Common.{◌∙◌}
use mathlib.Core.List.{List, [], ◌∷◌, ◌++◌, map, reverse, reverse-cons}
use Rattle.orbits.specs.Iterate.{iter, Inj}
use Rattle.orbits.proofs.laws.Iterate.{iter_zero, iter_suc, iter_step, iter_low, Period}
use Rattle.table.specs.Rotation.{Rotation, Lawful}
use Rattle.tracing.specs.Step.{steps, step, mirror, back}
use Rattle.tracing.specs.Walk.{walk}
use Rattle.tracing.specs.Listing.{has, gather}
use Rattle.tracing.specs.Met.{total}
use Rattle.tracing.proofs.laws.Listing.{has_here}
use Rattle.tracing.proofs.laws.Has.{has_tail}
use Rattle.tracing.proofs.laws.Walk.{iterates, run_suc, walk_run, walk_period, walk_period_le, step_inj}
use Rattle.tracing.proofs.laws.Back.{run_first, walk_mirror}
use Rattle.tracing.proofs.laws.Meets.{has_walk, trace_reach}

pub total_append : (g : ℕ → ℕ) (a b : List ℕ) → total g (a ++ b) ≡ total g a + total g b
unfolding total
total_append g [] b = omega arith
total_append g (x ∷ a) b = let r = total_append g a b in omega arith

total_same : (g h : ℕ → ℕ) → ((x : ℕ) → g x ≡ h x) → (l : List ℕ) → total g l ≡ total h l
unfolding total
total_same g h e [] = refl
total_same g h e (x ∷ l) = let here = e x in let r = total_same g h e l in omega arith

total_reverse : (g : ℕ → ℕ) (l : List ℕ) → total g (reverse l) ≡ total g l
unfolding total
total_reverse g [] = refl
total_reverse g (x ∷ l) = ap (total g) (reverse-cons x l) ∙ total_append g (reverse l) (x ∷ []) ∙ (let r = total_reverse g l in omega arith)

pub total_map : (g h : ℕ → ℕ) (l : List ℕ) → total g (map h l) ≡ total (λ x. g (h x)) l
unfolding total
total_map g h [] = refl
total_map g h (x ∷ l) = ap (λ n. g (h x) + n) (total_map g h l)

pub total_gather : (g : ℕ → ℕ) (f : ℕ → List ℕ) (l : List ℕ) → total g (gather f l) ≡ total (λ x. total g (f x)) l
unfolding total gather
total_gather g f [] = refl
total_gather g f (x ∷ l) = total_append g (f x) (gather f l) ∙ ap (λ n. total g (f x) + n) (total_gather g f l)

pub total_most : (g : ℕ → ℕ) (m : ℕ) (l : List ℕ) → ((x : ℕ) → has x l ≡ true → g x ≤ m) → total g l ≤ m * length l
unfolding total
total_most g m [] most = omega arith
total_most g m (x ∷ l) most =
    let here = most x (has_here x l) in
    let r = total_most g m l (λ y h. most y (has_tail y x l h)) in
    let all : m * suc (length l) ≡ m + m * length l = omega arith in
    omega arith

pub total_least : (g : ℕ → ℕ) (m : ℕ) (l : List ℕ) → ((x : ℕ) → has x l ≡ true → m ≤ g x) → m * length l ≤ total g l
unfolding total
total_least g m [] least = omega arith
total_least g m (x ∷ l) least =
    let here = least x (has_here x l) in
    let r = total_least g m l (λ y h. least y (has_tail y x l h)) in
    let all : m * suc (length l) ≡ m + m * length l = omega arith in
    omega arith

-- the points of a run of n steps from s on, and one more

module _ (f : ℕ → ℕ) (s : ℕ) where
  pub total_last : (g : ℕ → ℕ) (n : ℕ) → total g (iterates f s (suc n)) ≡ total g (iterates f s n) + g (iter f n s)
  unfolding total
  total_last g n = ap (total g) (run_suc f s n) ∙ total_append g (iterates f s n) (iter f n s ∷ []) ∙ omega arith

  total_first : (g : ℕ → ℕ) (n : ℕ) → total g (iterates f s (suc n)) ≡ g s + total g (iterates f (f s) n)
  unfolding total
  total_first g n = ap (total g) (run_first f s n)

-- a point and the next one come back after as many steps
period_next : {N : ℕ} {f : ℕ → ℕ} → Inj N f → {s : ℕ} → s < N → Period f s → Period f (f s)
period_next {N} {f} I {s} h p = record {
  steps = p.steps;
  some = p.some;
  back = sym (iter_step f p.steps s) ∙ iter_suc f p.steps s ∙ ap f p.back;
  least = λ k a b e. p.least k a b (I.inj _ _ (iter_low I k s h) h (sym (iter_suc f k s) ∙ iter_step f k s ∙ e));
}

module _ (R : Rotation) (L : Lawful R) where
  abbrev f : ℕ → ℕ
  f = step R

  total_next : (g : ℕ → ℕ) (s : ℕ) → s < steps → total g (walk R (f s)) ≡ total g (walk R s)
  unfolding period_next
  total_next g s h =
      let p = walk_period R L s h in
      let q = period_next (step_inj R L) h p in
      let few = walk_period_le R L s h p in
      let round = total_first f s g p.steps in
      let run = total_last f s g p.steps in
      let home = ap g p.back in
      ap (total g) (walk_run R (f s) q few) ∙ omega arith ∙ sym (ap (total g) (walk_run R s p few))

  total_iter : (g : ℕ → ℕ) (s : ℕ) → s < steps → (k : ℕ) → total g (walk R (iter f k s)) ≡ total g (walk R s)
  total_iter g s h zero = ap (λ x. total g (walk R x)) (iter_zero f s)
  total_iter g s h (suc k) =
      ap (λ x. total g (walk R x)) (iter_suc f k s) ∙ total_next g (iter f k s) (iter_low (step_inj R L) k s h) ∙ total_iter g s h k

  -- any step of the walk may name it
  pub total_named : (g : ℕ → ℕ) (s x : ℕ) → s < steps → has x (walk R s) ≡ true → total g (walk R s) ≡ total g (walk R x)
  total_named g s x h e =
      let r = (trace_reach R L h (has_walk R L s x h e)).reach in
      sym (total_iter g s h r.steps) ∙ ap (λ y. total g (walk R y)) r.lands

  -- and either sense may
  pub total_mirror : (g : ℕ → ℕ) → ((x : ℕ) → g (back R x) ≡ g x) → (s : ℕ) → s < steps → total g (walk R s) ≡ total g (walk R (mirror R s))
  total_mirror g same s h =
      sym (ap (total g) (walk_mirror R L s h) ∙ total_reverse g (map (back R) (walk R s)) ∙ total_map g (back R) (walk R s) ∙ total_same (λ x. g (back R x)) g same (walk R s))
