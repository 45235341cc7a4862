-- The exchange of two values, and where it joins. f with its values at x and y exchanged: where these were on two
-- orbits, the two become one, and all other orbits stay.
--     exch_left, exch_right, exch_off    the values of f after x and y are exchanged
--     exch_exch, exch_swap               the exchange undoes itself; x and y may change places
--     exch_inj, exch_world               it is injective where f is
--     exch_outside                       an orbit that has neither x nor y stays
--     exch_joins                         x and y on two orbits of f: the orbits of the exchange are those of f with these two joined
--     exch_less                          then there is one orbit less
use Rattle.std.specs.Prelude.{◌≡◌, ◌≢◌, ◌⊎◌, Bool, ℕ, suc, ◌<◌}
use Rattle.std.proofs.Common.{sym, ◌∙◌, ap, inl, inr, ⊎_elim}
use Rattle.std.proofs.Math.Path.{fun_ext}
use Rattle.orbits.specs.Iterate.{Inj}
use Rattle.orbits.specs.Reach.{Reach}
use Rattle.orbits.proofs.laws.Reach.{reach_here, reach_step, reach_one, reach_trans, reach_sym, reach_low, reach_ind, reach_back}
use Rattle.orbits.specs.Exchange.{tr, exch}
use Rattle.orbits.proofs.laws.Swap.{tr_left, tr_right, tr_off, tr_twice, tr_inj, tr_swap, tr_keeps, position, at_left, at_right, off}
use Rattle.orbits.proofs.laws.Merge.{Join, inside, across, back, Merge, join_then, join_tr}
use Rattle.orbits.specs.Orbits.{orbits, World, On}
use Rattle.orbits.proofs.laws.Orbits.{reach_partition, merge_orbits}

pub exch_left : (f : ℕ → ℕ) (x y : ℕ) → exch f x y x ≡ f y
unfolding exch
exch_left f x y = ap f (tr_left x y)

pub exch_right : (f : ℕ → ℕ) (x y : ℕ) → exch f x y y ≡ f x
unfolding exch
exch_right f x y = ap f (tr_right x y)

pub exch_off : (f : ℕ → ℕ) (x y i : ℕ) → i ≢ x → i ≢ y → exch f x y i ≡ f i
unfolding exch
exch_off f x y i d e = ap f (tr_off x y i d e)

pub exch_exch : (f : ℕ → ℕ) (x y : ℕ) → exch (exch f x y) x y ≡ f
unfolding exch
exch_exch f x y = fun_ext (λ i. ap f (tr_twice x y i))

pub exch_swap : (f : ℕ → ℕ) (x y : ℕ) → exch f x y ≡ exch f y x
unfolding exch
exch_swap f x y = fun_ext (λ i. ap f (tr_swap x y i))

pub exch_inj : {N : ℕ} {f : ℕ → ℕ} → Inj N f → {x y : ℕ} → x < N → y < N → Inj N (exch f x y)
unfolding exch
exch_inj {N} {f} I {x} {y} h l = record {
  fwd = λ i m. I.fwd (tr x y i) (low i m);
  inj = λ i j m n e. tr_inj x y i j (I.inj (tr x y i) (tr x y j) (low i m) (low j n) e);
}
  where
    low : (i : ℕ) → i < N → tr x y i < N
    low i m = tr_keeps (λ k. k < N) x y i h l m

pub exch_world : {N : ℕ} {f : ℕ → ℕ} {live : ℕ → Bool} {x y : ℕ} → World N f live → On N live x → On N live y → World N (exch f x y) live
unfolding exch
exch_world {N} {f} {live} {x} {y} W a b = record {
  perm = exch_inj W.perm a.lt b.lt;
  inv = λ i m. elim (position x y i) [
    | at_left e ↦ rw (e, tr_left x y) (W.inv y b.lt ∙ b.on ∙ sym a.on)
    | at_right e ↦ rw (e, tr_right x y) (W.inv x a.lt ∙ a.on ∙ sym b.on)
    | off d e ↦ rw (tr_off x y i d e) (W.inv i m)
  ];
}

-- an orbit that has neither x nor y stays
pub exch_outside : {f : ℕ → ℕ} {x y i j : ℕ} → ¬ Reach f i x → ¬ Reach f i y → Reach f i j → Reach (exch f x y) i j
exch_outside {f} {x} {y} {i} {j} p q r =
    reach_ind f (Reach (exch f x y) i) i reach_here
    (λ k s t. rw (← (exch_off f x y k (λ e. p (rw e at s)) (λ e. q (rw e at s)))) (reach_step t))
    j r

-- y goes on to f x, along the orbit of x, and meets x at the end
meets : {N : ℕ} {f : ℕ → ℕ} → Inj N f → {x y : ℕ} → x < N → ¬ Reach f x y → Reach (exch f x y) y x
meets {N} {f} I {x} {y} h apart =
    ⊎_elim (λ t. t) (λ t. t)
    (reach_ind f (λ k. Reach (exch f x y) y x ⊎ Reach (exch f x y) y k) (f x)
    (inr (rw (← (exch_right f x y)) (reach_one y)))
    (λ k s t. elim t [
      | inl m ↦ inl m
      | inr m ↦ elim (position x y k) [
        | at_left e ↦ inl (rw e at m)
        | at_right e ↦ absurd (apart (reach_trans (reach_one x) (rw e at s)))
        | off d e ↦ inr (rw (← (exch_off f x y k d e)) (reach_step m))
      ]
    ])
    x (reach_back I x h))

pub exch_joins : {N : ℕ} {f : ℕ → ℕ} → Inj N f → {x y : ℕ} → x < N → y < N → ¬ Reach f x y → Merge N (Reach f) (Reach (exch f x y)) x y
unfolding exch
exch_joins {N} {f} I {x} {y} h l apart = record {
  apart = apart;
  into = λ i j m n r. reach_ind (exch f x y) (Join (Reach f) x y i) i (inside reach_here) (λ k s t. step m s t) j r;
  onto = λ i j m n t. join t;
}
  where
    -- each step of the exchange stays inside the joined relation
    step : {i k : ℕ} → i < N → Reach (exch f x y) i k → Join (Reach f) x y i k → Join (Reach f) x y i (exch f x y k)
    step {i} {k} m s t =
        let at : tr x y k < N = tr_keeps (λ j. j < N) x y k h l (reach_low (exch_inj I h l) m s) in
        let P = reach_partition I in
        join_then P h l m at (I.fwd (tr x y k) at) (join_tr P h l h l m reach_here reach_here t) (reach_one (tr x y k))

    yx : Reach (exch f x y) y x
    yx = meets I h apart

    xy : Reach (exch f x y) x y
    xy = reach_sym (exch_inj I h l) l yx

    keep : {i j : ℕ} → Reach f i j → Reach (exch f x y) i j
    keep {i} {j} r =
        reach_ind f (Reach (exch f x y) i) i reach_here
        (λ k s t. elim (position x y k) [
          | at_left e ↦ rw (e, ← (exch_right f x y)) (reach_step (reach_trans (rw e at t) xy))
          | at_right e ↦ rw (e, ← (exch_left f x y)) (reach_step (reach_trans (rw e at t) yx))
          | off d e ↦ rw (← (exch_off f x y k d e)) (reach_step t)
        ])
        j r

    join : {i j : ℕ} → Join (Reach f) x y i j → Reach (exch f x y) i j
    join (inside r) = keep r
    join (across p q) = reach_trans (reach_trans (keep p) xy) (keep q)
    join (back p q) = reach_trans (reach_trans (keep p) yx) (keep q)

pub exch_less : {N : ℕ} {f : ℕ → ℕ} {live : ℕ → Bool} {x y : ℕ} → World N f live → On N live x → On N live y → ¬ Reach f x y
    → orbits f N live ≡ suc (orbits (exch f x y) N live)
exch_less W a b apart = merge_orbits W (exch_inj W.perm a.lt b.lt) a b (exch_joins W.perm a.lt b.lt apart)
