-- "next" once every dart keeps its rules: a permutation whose orbits are the cycles, and how many darts a cycle has.
--     next_live, prev_live                   next and previous of a live dart are live
--     prev_next, next_prev, prev_undone      they undo each other
--     live_next, leaves_next                 next keeps live darts and the vertex they leave
--     next_inj                               next is one-to-one on the darts
--     iter_live, iter_leaves, iter_word      the same after k steps
--     orbit_size                             an orbit has as many points as steps round it
--     Round                                  the walk round a cycle, n steps on, with no smaller dart so far
--     CycleSays                              the number of darts on the cycle, or none where a smaller one is on it
--     round_none, round_more, round_short    the walk begins, goes on, and stays below the number of darts
--     round_all, round_lower                 what it answers where it ends
use Prim.Native.Nat.{ℕ, zero, suc, ◌+◌, ◌-◌, ◌≤◌, ◌<◌}
use native.Mathlib.Omega.{arith}
use Rattle.std.proofs.Common.{lt_of_lt_of_le, ◌∙◌, add-one}
use Rattle.std.specs.Prelude.{◌≡◌, true, List, Option, Some, None, ◌≢◌}
use Rattle.std.proofs.Math.Path.{refl, sym, ap}
use Rattle.std.proofs.Math.Decide.{ℕ_discrete, dec_lt}
use Rattle.orbits.specs.Count.{count}
use Rattle.orbits.proofs.laws.Count.{count_all, count_onto}
use Rattle.orbits.specs.Iterate.{iter, Inj}
use Rattle.orbits.proofs.laws.Iterate.{iter_suc, iter_low, Period, period, period_le, period_apart}
use Rattle.orbits.specs.Reach.{reaches}
use Rattle.orbits.proofs.laws.Reach.{says_reach, reach_says, reach_within}
use Rattle.table.specs.Layout.{darts, next_word, prev_word, leaves, Live}
use Rattle.table.specs.laws.Rotation.{Case, holds, fails, live_case, live_yes, yes_live, next_dart_live, prev_dart_live, next_dart_dead, prev_dart_dead}
use Rattle.table.specs.Rotation.{live?, next_dart, prev_dart}
use Rattle.table.specs.laws.Darts.{Ruled}

module _ (t : List ℕ) (r : Ruled t darts) where
  -- the word of a dart that is not live is none of a dart's, so what a live dart leads to is live
  pub next_live : (d : ℕ) → Live t d → Live t (next_word t d)
  next_live d l =
      let k = (r d l.low).linked l.on in
      record { low = k.next_low; on = λ off. let b = ((r (next_word t d) k.next_low).bare off).prev_none in omega (arith, k.prev_next, b, l.low) }

  prev_next_case : (d : ℕ) → Case (live? t d) (Live t d) → prev_dart t (next_dart t d) ≡ d
  prev_next_case d (holds e l) =
      rw (next_dart_live t d e) (prev_dart_live t (next_word t d) (yes_live t _ (next_live d l)) ∙ ((r d l.low).linked l.on).prev_next)
  prev_next_case d (fails e n) = rw (next_dart_dead t d e) (prev_dart_dead t d e)

  pub prev_next : (d : ℕ) → prev_dart t (next_dart t d) ≡ d
  prev_next d = prev_next_case d (live_case t d)

  live_next_case : (d : ℕ) → Case (live? t d) (Live t d) → live? t (next_dart t d) ≡ live? t d
  live_next_case d (holds e l) = rw (next_dart_live t d e) (yes_live t _ (next_live d l) ∙ sym e)
  live_next_case d (fails e n) = rw (next_dart_dead t d e)

  pub live_next : (d : ℕ) → live? t (next_dart t d) ≡ live? t d
  live_next d = live_next_case d (live_case t d)

  leaves_next_case : (d : ℕ) → Case (live? t d) (Live t d) → leaves t (next_dart t d) ≡ leaves t d
  leaves_next_case d (holds e l) = rw (next_dart_live t d e) ((r d l.low).linked l.on).next_leaves
  leaves_next_case d (fails e n) = rw (next_dart_dead t d e)

  pub leaves_next : (d : ℕ) → leaves t (next_dart t d) ≡ leaves t d
  leaves_next d = leaves_next_case d (live_case t d)

  next_low_case : (d : ℕ) → d < darts → Case (live? t d) (Live t d) → next_dart t d < darts
  next_low_case d h (holds e l) = rw (next_dart_live t d e) (next_live d l).low
  next_low_case d h (fails e n) = rw (next_dart_dead t d e) h

  pub next_inj : Inj darts (next_dart t)
  next_inj = record {
    fwd = λ d h. next_low_case d h (live_case t d);
    inj = λ d d' h h' e. sym (prev_next d) ∙ ap (prev_dart t) e ∙ prev_next d';
  }

  -- what stays the same round a cycle
  pub iter_live : (k d : ℕ) → live? t (iter (next_dart t) k d) ≡ live? t d
  unfolding iter
  iter_live zero d = refl
  iter_live (suc k) d = live_next (iter (next_dart t) k d) ∙ iter_live k d

  -- the dart that leads to d: some dart of its cycle does
  abbrev before : (d : ℕ) → Live t d → ℕ
  before d l = iter (next_dart t) ((period next_inj d l.low).steps - 1) d

  before_live : (d : ℕ) (l : Live t d) → live? t (before d l) ≡ true
  before_live d l = iter_live ((period next_inj d l.low).steps - 1) d ∙ yes_live t d l

  before_leads : (d : ℕ) (l : Live t d) → next_word t (before d l) ≡ d
  unfolding iter
  before_leads d l =
      let p = period next_inj d l.low in
      let some = p.some in
      let e : suc (p.steps - 1) ≡ p.steps = omega arith in
      sym (next_dart_live t (before d l) (before_live d l)) ∙ ap (λ k. iter (next_dart t) k d) e ∙ p.back

  -- and "previous" tells it, so "next" undoes "previous" too
  before_word : (d : ℕ) (l : Live t d) → prev_word t d ≡ before d l
  before_word d l =
      let k = live_yes t (before d l) (before_live d l) in
      ap (prev_word t) (sym (before_leads d l)) ∙ ((r (before d l) k.low).linked k.on).prev_next

  pub prev_live : (d : ℕ) → Live t d → Live t (prev_word t d)
  prev_live d l = rw (before_word d l) (live_yes t (before d l) (before_live d l))

  pub prev_undone : (d : ℕ) → Live t d → next_word t (prev_word t d) ≡ d
  prev_undone d l = ap (next_word t) (before_word d l) ∙ before_leads d l

  next_prev_case : (d : ℕ) → Case (live? t d) (Live t d) → next_dart t (prev_dart t d) ≡ d
  next_prev_case d (holds e l) =
      rw (prev_dart_live t d e) (next_dart_live t (prev_word t d) (yes_live t _ (prev_live d l)) ∙ prev_undone d l)
  next_prev_case d (fails e n) = rw (prev_dart_dead t d e) (next_dart_dead t d e)

  pub next_prev : (d : ℕ) → next_dart t (prev_dart t d) ≡ d
  next_prev d = next_prev_case d (live_case t d)

  pub iter_leaves : (k d : ℕ) → leaves t (iter (next_dart t) k d) ≡ leaves t d
  unfolding iter
  iter_leaves zero d = refl
  iter_leaves (suc k) d = leaves_next (iter (next_dart t) k d) ∙ iter_leaves k d

  -- on live darts the rotation's next is the word
  pub iter_word : (k d : ℕ) → Live t d → iter (next_dart t) k d ≡ iter (next_word t) k d
  unfolding iter
  iter_word zero d l = refl
  iter_word (suc k) d l =
      next_dart_live t (iter (next_dart t) k d) (iter_live k d ∙ yes_live t d l) ∙ ap (next_word t) (iter_word k d l)

-- an orbit has as many points as steps round it
pub orbit_size : {N : ℕ} {f : ℕ → ℕ} → Inj N f → (i : ℕ) → i < N → (p : Period f i) → count (reaches f N i) N ≡ p.steps
orbit_size {N} {f} I i h p =
    sym (count_onto (λ k j. iter f k i ≡ j) (λ k. true) (reaches f N i) p.steps N
    (λ k l e. record { to = iter f k i; low = iter_low I k i h; pass = reach_says I h (record { steps = k; lands = refl }); pair = refl })
    (λ j l e. let w = reach_within p (says_reach f N i j e) in record { to = w.steps; low = w.few; pass = refl; pair = w.lands })
    (λ a b j l m n x y z u v. period_apart I h p a b l m (u ∙ sym v))
    (λ a b k l m n x y z u v. sym u ∙ v)) ∙ count_all (λ k. true) p.steps (λ k l. refl)

-- The walk round the cycle from w: d is n steps on, w has not come up again, and no dart so far is smaller.
pub record Round (t : List ℕ) (w n d : ℕ) : Type 0 where
  pub some : zero < n
  pub at : iter (next_dart t) n w ≡ d
  pub live : Live t d
  pub apart : (k : ℕ) → zero < k → k < n → iter (next_dart t) k w ≢ w
  pub above : (k : ℕ) → k < n → w ≤ iter (next_dart t) k w

-- what the walk answers: the number of darts on the cycle, or none where a smaller dart than w is on it
pub data CycleSays (t : List ℕ) (w : ℕ) (r : Option ℕ) : Type 0 where
  leads : (p : Period (next_dart t) w) → r ≡ Some p.steps → ((k : ℕ) → w ≤ iter (next_dart t) k w) → CycleSays t w r
  follows : r ≡ None → (k : ℕ) → iter (next_dart t) k w < w → CycleSays t w r

module _ (t : List ℕ) (r : Ruled t darts) (w : ℕ) (l : Live t w) where
  pub round_none : Round t w 1 (next_word t w)
  unfolding iter
  round_none = record {
    some = omega arith;
    at = next_dart_live t w (yes_live t w l);
    live = next_live t r w l;
    apart = λ k h m. absurd (between k h m);
    above = λ k h. let e : k ≡ zero = omega arith in rw e (omega arith);
  }
    where
      between : (k : ℕ) → zero < k → k < 1 → ⊥
      between k h m = omega arith

  pub round_more : (n d : ℕ) → Round t w n d → d ≢ w → w ≤ d → Round t w (n + 1) (next_word t d)
  round_more n d o away up = record {
    some = omega arith;
    at = ap (λ k. iter (next_dart t) k w) (add-one n) ∙ iter_suc (next_dart t) n w ∙ rw o.at (next_dart_live t d (yes_live t d o.live));
    live = next_live t r d o.live;
    apart = λ k h m. elim (ℕ_discrete k n) [
      | yes e ↦ rw (e, o.at) away
      | no e ↦ o.apart k h (omega arith)
    ];
    above = λ k h. elim (ℕ_discrete k n) [
      | yes e ↦ rw (e, o.at) up
      | no e ↦ o.above k (omega arith)
    ];
  }

  -- the walk is short of the finite order
  pub round_short : (n d : ℕ) → Round t w n d → d ≢ w → n < darts
  round_short n d o away =
      let p = period (next_inj t r) w l.low in
      let few = period_le (next_inj t r) l.low p in
      elim (dec_lt n p.steps) [
        | yes h ↦ lt_of_lt_of_le h few
        | no h ↦ elim (ℕ_discrete n p.steps) [
          | yes e ↦ absurd (away (sym o.at ∙ rw e p.back))
          | no e ↦ absurd (o.apart p.steps p.some (omega arith) p.back)
        ]
      ]

  pub round_all : (n d : ℕ) → Round t w n d → d ≡ w → CycleSays t w (Some n)
  round_all n d o e = leads p refl (λ k. let i = reach_within p (record { steps = k; lands = refl }) in rw (← i.lands) (o.above i.steps i.few))
    where
      p : Period (next_dart t) w
      p = record { steps = n; some = o.some; back = o.at ∙ e; least = o.apart }

  pub round_lower : (n d : ℕ) → Round t w n d → d < w → CycleSays t w None
  round_lower n d o h = follows refl n (rw o.at h)
