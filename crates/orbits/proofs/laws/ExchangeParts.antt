-- Where the exchange of two values parts. x and y are two points of one orbit: after the exchange this orbit falls in
-- two, one with x and one with y, and all others stay.
--     Arc              the part that has y is the way of f from x to y
--     exch_parts       the orbits of f are those of the exchange, with those of x and y joined
--     exch_more        there is one orbit more
use Rattle.std.specs.Prelude.{◌≡◌, ◌≢◌, Bool, ℕ, zero, suc, ◌-◌, ◌+◌, ◌<◌}
use Rattle.std.proofs.Common.{sym, ◌∙◌, ap, arith}
use Rattle.std.proofs.Math.Decide.{ℕ_discrete, dec_lt}
use Rattle.orbits.proofs.laws.Truth.{First, found, none}
use Rattle.orbits.specs.Iterate.{iter, Inj}
use Rattle.orbits.proofs.laws.Iterate.{iter_zero, iter_suc, iter_add, meeting}
use Rattle.orbits.specs.Reach.{Reach}
use Rattle.orbits.proofs.laws.Reach.{reach_sym, reach_ind}
use Rattle.orbits.proofs.laws.Swap.{Position, position, at_left, at_right, off}
use Rattle.orbits.proofs.laws.Merge.{Merge}
use Rattle.orbits.specs.Orbits.{orbits, World, On}
use Rattle.orbits.proofs.laws.Orbits.{merge_orbits}
use Rattle.orbits.specs.Exchange.{exch}
use Rattle.orbits.proofs.laws.Exchange.{exch_right, exch_off, exch_exch, exch_inj, exch_world, exch_joins}

-- j is on the way of f from x to y: some steps, at least one, lead from x to j, and none of them before the last to y
pub record Arc (f : ℕ → ℕ) (x y j : ℕ) : Type 0 where
  pub steps : ℕ
  pub some : zero < steps
  pub lands : iter f steps x ≡ j
  pub clear : (k : ℕ) → zero < k → k < steps → iter f k x ≢ y

-- y ends the way to it
arc_end : {f : ℕ → ℕ} {x y : ℕ} → x ≢ y → Reach f x y → Arc f x y y
arc_end {f} {x} {y} d r = by (meeting f x y (suc r.steps))
  where
    moves : zero < r.steps
    moves = elim (ℕ_discrete r.steps zero) [
      | yes h ↦ absurd (d (sym (iter_zero f x) ∙ ap (λ k. iter f k x) (sym h) ∙ r.lands))
      | no h ↦ omega arith
    ]

    by : First (λ k. (zero < k) × (iter f k x ≡ y)) (suc r.steps) → Arc f x y y
    by (found k l p before) = record { steps = k; some = p.0; lands = p.1; clear = λ j pos m z. before j m (pos, z) }
    by (none out) = absurd (out r.steps (omega arith) (moves, r.lands))

-- and x is not on it
arc_start : {f : ℕ → ℕ} {x y : ℕ} → x ≢ y → Reach f x y → ¬ Arc f x y x
arc_start {f} {x} {y} d r a = by (arc_end d r)
  where
    -- k steps lead back to x: then y is met k steps sooner
    sooner : (k j : ℕ) → iter f k x ≡ x → iter f (k + j) x ≡ y → iter f j x ≡ y
    sooner k j e z = ap (iter f j) (sym e) ∙ sym (iter_add f k j x) ∙ z

    by : Arc f x y y → ⊥
    by e = elim (dec_lt e.steps a.steps) [
      | yes l ↦ a.clear e.steps e.some l e.lands
      | no l ↦ elim (ℕ_discrete e.steps a.steps) [
        | yes s ↦ d (sym a.lands ∙ ap (λ k. iter f k x) (sym s) ∙ e.lands)
        | no s ↦
            let sum : a.steps + (e.steps - a.steps) ≡ e.steps = omega arith in
            let some = a.some in
            e.clear (e.steps - a.steps) (omega arith) (omega arith) (sooner a.steps (e.steps - a.steps) a.lands (rw sum e.lands))
      ]
    ]

module _ {f : ℕ → ℕ} {x y : ℕ} (d : x ≢ y) (r : Reach f x y) where
  reach_arc : (j : ℕ) → Reach (exch f x y) y j → Arc f x y j
  reach_arc j t = reach_ind (exch f x y) (Arc f x y) y (arc_end d r) (λ k s a. step k a (position x y k)) j t
    where
      step : (k : ℕ) → Arc f x y k → Position x y k → Arc f x y (exch f x y k)
      step k a (at_left e) = absurd (arc_start d r (rw e at a))
      step k a (at_right e) = rw (e, exch_right f x y) (record {
        steps = 1;
        some = omega arith;
        lands = iter_suc f 0 x ∙ ap f (iter_zero f x);
        clear = λ j pos l. absurd (none j pos l);
      })
        where
          none : (j : ℕ) → zero < j → j < 1 → ⊥
          none j pos l = omega arith
      step k a (off m n) = rw (exch_off f x y k m n) (record {
        steps = suc a.steps;
        some = omega arith;
        lands = iter_suc f a.steps x ∙ ap f a.lands;
        clear = λ j pos l. elim (ℕ_discrete j a.steps) [
          | yes e ↦ λ z. n (sym a.lands ∙ ap (λ s. iter f s x) (sym e) ∙ z)
          | no e ↦ a.clear j pos (omega arith)
        ];
      })

pub exch_parts : {N : ℕ} {f : ℕ → ℕ} → Inj N f → {x y : ℕ} → x < N → y < N → x ≢ y → Reach f x y → Merge N (Reach (exch f x y)) (Reach f) x y
exch_parts {N} {f} I {x} {y} h l d r =
    rw (exch_exch f x y) at (exch_joins (exch_inj I h l) h l apart)
  where
    apart : ¬ Reach (exch f x y) x y
    apart s = arc_start d r (reach_arc d r x (reach_sym (exch_inj I h l) h s))

pub exch_more : {N : ℕ} {f : ℕ → ℕ} {live : ℕ → Bool} {x y : ℕ} → World N f live → On N live x → On N live y → x ≢ y → Reach f x y
    → orbits (exch f x y) N live ≡ suc (orbits f N live)
exch_more W a b d r = merge_orbits (exch_world W a b) W.perm a b (exch_parts W.perm a.lt b.lt d r)
