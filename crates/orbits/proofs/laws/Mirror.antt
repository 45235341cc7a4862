-- A mirror of a map: an involution m that turns each orbit of f into one run the other way. On live numbers m has no
-- fixed point, and never takes i to f i. Then no orbit is its own mirror image, so orbits have at most half of the live numbers each.
--     mirror_world                                 such an f is injective below N
--     mirror_part, mirror_on                       the same mirror on a part of the live numbers; the mirror of a live number is live
--     mirror_next, reach_mirror                    j after i: then the mirror of i after the mirror of j
--     mirror_reach, mirror_unreach                 the mirror of an orbit is an orbit
--     opposite_reach, opposite_low, opposite_on    the opposite of i is m (f i): the same step, run the other way
--     opposite_inj, opposite_apart                 no two numbers have one opposite, and no live one is its own
--     no_self                                      i and its mirror are on two orbits
--     period_half                                  twice the period of a live number is at most the number of live numbers
use Rattle.std.specs.Prelude.{◌≡◌, refl, ◌≢◌, Bool, true, ℕ, zero, suc, ◌+◌, ◌*◌, ◌-◌, ◌<◌, ◌≤◌}
use Rattle.std.proofs.Common.{sym, ◌∙◌, ap, arith}
use Rattle.std.proofs.Math.Decide.{dec_lt}
use Rattle.orbits.specs.Count.{count, Partner}
use Rattle.orbits.proofs.laws.Count.{count_all, count_into}
use Rattle.orbits.specs.Iterate.{iter}
use Rattle.orbits.proofs.laws.Iterate.{iter_zero, iter_suc, iter_step, iter_low, Period, period_apart}
use Rattle.orbits.specs.Reach.{Reach}
use Rattle.orbits.proofs.laws.Reach.{reach_here, reach_one, reach_trans, reach_sym, reach_low, reach_ind}
use Rattle.orbits.specs.Orbits.{World, On}
use Rattle.orbits.proofs.laws.Orbits.{reach_on}
use Rattle.orbits.specs.Mirror.{Mirror}

pub mirror_world : {N : ℕ} {f m : ℕ → ℕ} {live : ℕ → Bool} → Mirror N f m live → World N f live
mirror_world {N} {f} {m} E = record {
  perm = record { fwd = E.fwd; inj = λ i j h l e. sym (E.turn i h) ∙ ap (λ k. m (f (m k))) e ∙ E.turn j l };
  inv = E.inv;
}

-- the same mirror on a part of the live numbers that both maps keep
pub mirror_part : {N : ℕ} {f m : ℕ → ℕ} {live : ℕ → Bool} → Mirror N f m live → (part : ℕ → Bool) → ((i : ℕ) → i < N → part (f i) ≡ part i)
    → ((i : ℕ) → i < N → part (m i) ≡ part i) → ((i : ℕ) → On N part i → live i ≡ true) → Mirror N f m part
mirror_part E part inv keep sub = record {
  fwd = E.fwd;
  inv = inv;
  low = E.low;
  twice = E.twice;
  turn = E.turn;
  keep = keep;
  still = λ i o. E.still i (record { lt = o.lt; on = sub i o });
  cross = λ i o. E.cross i (record { lt = o.lt; on = sub i o });
}

pub mirror_on : {N : ℕ} {f m : ℕ → ℕ} {live : ℕ → Bool} → Mirror N f m live → {i : ℕ} → On N live i → On N live (m i)
mirror_on E {i} o = record { lt = E.low i o.lt; on = E.keep i o.lt ∙ o.on }

-- the mirror of f i is followed by the mirror of i
pub mirror_next : {N : ℕ} {f m : ℕ → ℕ} {live : ℕ → Bool} → Mirror N f m live → (i : ℕ) → i < N → f (m (f i)) ≡ m i
mirror_next {N} {f} {m} E i h = sym (E.twice (f (m (f i))) (E.fwd _ (E.low _ (E.fwd i h)))) ∙ ap m (E.turn i h)

pub opposite_reach : {N : ℕ} {f m : ℕ → ℕ} {live : ℕ → Bool} → Mirror N f m live → {i : ℕ} → i < N → Reach f (m (f i)) (m i)
opposite_reach {N} {f} {m} E {i} h = rw (mirror_next E i h) at (reach_one {f = f} (m (f i)))

pub reach_mirror : {N : ℕ} {f m : ℕ → ℕ} {live : ℕ → Bool} → Mirror N f m live → {i j : ℕ} → i < N → Reach f i j → Reach f (m j) (m i)
reach_mirror {N} {f} {m} E {i} {j} h r =
    reach_ind f (λ k. Reach f (m k) (m i)) i reach_here
    (λ k s t. reach_trans (opposite_reach E (reach_low (mirror_world E).perm h s)) t)
    j r

-- the same, both run forwards: the mirror of an orbit is an orbit
pub mirror_reach : {N : ℕ} {f m : ℕ → ℕ} {live : ℕ → Bool} → Mirror N f m live → {i j : ℕ} → i < N → Reach f i j → Reach f (m i) (m j)
mirror_reach E h r =
    let I = (mirror_world E).perm in
    reach_sym I (E.low _ (reach_low I h r)) (reach_mirror E h r)

pub mirror_unreach : {N : ℕ} {f m : ℕ → ℕ} {live : ℕ → Bool} → Mirror N f m live → {i j : ℕ} → i < N → j < N → Reach f (m i) (m j) → Reach f i j
mirror_unreach E {i} {j} h l r = rw (E.twice i h, E.twice j l) at (mirror_reach E (E.low i h) r)

-- The step from i, run the other way, is the step from m (f i): the opposite of i. To take the opposite is an involution
-- with no live fixed point.
pub opposite_low : {N : ℕ} {f m : ℕ → ℕ} {live : ℕ → Bool} → Mirror N f m live → {i : ℕ} → i < N → m (f i) < N
opposite_low E h = E.low _ (E.fwd _ h)

pub opposite_on : {N : ℕ} {f m : ℕ → ℕ} {live : ℕ → Bool} → Mirror N f m live → {i : ℕ} → On N live i → On N live (m (f i))
opposite_on E {i} o = mirror_on E (reach_on (mirror_world E) o (reach_one i))

pub opposite_inj : {N : ℕ} {f m : ℕ → ℕ} {live : ℕ → Bool} → Mirror N f m live → {i j : ℕ} → i < N → j < N → m (f i) ≡ m (f j) → i ≡ j
opposite_inj {N} {f} {m} E {i} {j} h l e = sym (E.turn i h) ∙ ap (λ k. m (f k)) e ∙ E.turn j l

pub opposite_apart : {N : ℕ} {f m : ℕ → ℕ} {live : ℕ → Bool} → Mirror N f m live → {i : ℕ} → On N live i → i ≢ m (f i)
opposite_apart {N} {f} {m} E {i} o e = E.cross i o (sym (E.twice (f i) (E.fwd i o.lt)) ∙ ap m (sym e))

pub no_self : {N : ℕ} {f m : ℕ → ℕ} {live : ℕ → Bool} → Mirror N f m live → {i : ℕ} → On N live i → ¬ Reach f i (m i)
no_self {N} {f} {m} {live} E {i} o r = apart r.steps i o r.lands
  where
    -- k steps from i to its mirror are k - 2 steps from f i to the mirror of f i
    apart : (k i : ℕ) → On N live i → iter f k i ≡ m i → ⊥
    apart zero i o e = E.still i o (sym e ∙ iter_zero f i)
    apart (suc zero) i o e = E.cross i o (sym (iter_suc f 0 i ∙ ap f (iter_zero f i)) ∙ e)
    apart (suc (suc k)) i o e =
        let next = reach_on (mirror_world E) o (reach_one i) in
        let I = (mirror_world E).perm in
        apart k (f i) next
        (I.inj _ _ (iter_low I k (f i) next.lt) (E.low (f i) next.lt)
        (sym (iter_step f (suc k) i ∙ iter_suc f k (f i)) ∙ e ∙ sym (mirror_next E i o.lt)))

-- an orbit and its mirror, laid end to end: first the steps from i, then their mirrors
data Lap (f m : ℕ → ℕ) (i n a s : ℕ) : Type 0 where
  out : a < n → iter f a i ≡ s → Lap f m i n a s
  home : (t : ℕ) → t < n → a ≡ n + t → m (iter f t i) ≡ s → Lap f m i n a s

pub period_half : {N : ℕ} {f m : ℕ → ℕ} {live : ℕ → Bool} → Mirror N f m live → {i : ℕ} → On N live i → (p : Period f i) → 2 * p.steps ≤ count live N
period_half {N} {f} {m} {live} E {i} o p = omega (arith, into, count_all (λ k. true) (p.steps + p.steps) (λ k l. refl))
  where
    at : (k : ℕ) → On N live (iter f k i)
    at k = reach_on (mirror_world E) o (record { steps = k; lands = refl })

    lap : (a : ℕ) → a < p.steps + p.steps → Partner (Lap f m i p.steps) live N a
    lap a l = elim (dec_lt a p.steps) [
      | yes h ↦ record { to = iter f a i; low = (at a).lt; pass = (at a).on; pair = out h refl }
      | no h ↦
          let q = mirror_on E (at (a - p.steps)) in
          record { to = m (iter f (a - p.steps) i); low = q.lt; pass = q.on; pair = home (a - p.steps) (omega arith) (omega arith) refl }
    ]

    -- a point of the orbit is no mirror of one
    never : (a t : ℕ) → iter f a i ≡ m (iter f t i) → ⊥
    never a t e =
        let there : Reach f i (m (iter f t i)) = record { steps = a; lands = e } in
        no_self E o (reach_trans there (reach_mirror E o.lt (record { steps = t; lands = refl })))

    unmirror : (t u : ℕ) → m (iter f t i) ≡ m (iter f u i) → iter f t i ≡ iter f u i
    unmirror t u e = sym (E.twice (iter f t i) (at t).lt) ∙ ap m e ∙ E.twice (iter f u i) (at u).lt

    apart : (a b s : ℕ) → Lap f m i p.steps a s → Lap f m i p.steps b s → a ≡ b
    apart a b s (out h d) (out l e) = period_apart (mirror_world E).perm o.lt p a b h l (d ∙ sym e)
    apart a b s (out h d) (home u l y e) = absurd (never a u (d ∙ sym e))
    apart a b s (home t h x d) (out l e) = absurd (never b t (e ∙ sym d))
    apart a b s (home t h x d) (home u l y e) =
        let same = period_apart (mirror_world E).perm o.lt p t u h l (unmirror t u (d ∙ sym e)) in
        omega arith

    into : count (λ k. true) (p.steps + p.steps) ≤ count live N
    into = count_into (Lap f m i p.steps) (λ k. true) live (p.steps + p.steps) N (λ a l t. lap a l) (λ a b s l n c t u w. apart a b s)
