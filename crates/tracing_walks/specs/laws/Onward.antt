-- The steps of a walk that are still to come.
--     tail, ClosedBy                               a list without its first; the way on from i is no longer for one more step
--     onward_last, onward_more, closed_more        the way on from a step, from the next one; it closes from there too
--     OnWalk, OnWay                                a step is one of the walk; so is the one that came last, if one did
--     to_come                                      the steps to come after it
--     walk_begins, on_way_none, on_way_some        the start is one of them; none came yet; one did
--     to_come_first, to_come_more, to_come_none    the first step comes, or the next one, or none
--     on_walk_stands, on_walk_more                 a step of the walk stands on a live dart; the next one is one of the walk
use Rattle.std.specs.Prelude.{ℕ, zero, suc, ◌/◌, ◌≡◌, ◌≢◌, refl, true, List, [], ◌∷◌, Option, Some, None, length}
use Rattle.std.specs.Option.{ForSome, unwrap_or}
use Rattle.std.proofs.Common.{arith, sym, subst, ◌∙◌, ap, eq-eqb, ne_eqb}
use Rattle.std.proofs.Math.Decide.{ℕ_discrete}
use Rattle.std.proofs.lemmas.Option.{none-some}
use Rattle.table.specs.Check.{good?}
use Rattle.table.specs.Rotation.{rotation, live?}
use Rattle.table.specs.laws.Check.{good_case, good_yes}
use Rattle.table.specs.laws.Rotation.{case_yes}
use Rattle.table.specs.laws.Lawful.{good_lawful}
use Rattle.tracing.specs.Step.{steps, step}
use Rattle.tracing.specs.Walk.{walk, onward}
use Rattle.tracing.proofs.laws.Walk.{onward_run, walk_period, walk_period_le}
use Rattle.tracing_walks.specs.laws.Stands.{Stands, stands_step, stands_low}

unfoldable pub tail : List ℕ → List ℕ
tail [] = []
tail (x ∷ l) = l

module _ (f : ℕ → ℕ) (s : ℕ) where
  pub onward_last : (n i : ℕ) → f i ≡ s → onward f s (suc n) i ≡ i ∷ []
  unfolding onward
  onward_last n i e = rw (eq-eqb (f i) s e)

  more : (n i : ℕ) → f i ≢ s → onward f s (suc n) i ≡ i ∷ onward f s n (f i)
  unfolding onward
  more n i e = rw (ne_eqb (f i) s e)

  -- the way on from i is no longer for one more step
  abbrev ClosedBy : ℕ → ℕ → Type 0
  ClosedBy n i = onward f s n i ≡ onward f s (suc n) i

  closed_later : (n i : ℕ) → ClosedBy n i → ClosedBy (suc n) i
  unfolding onward tail
  closed_later zero i e = absurd (let n = ap length e in omega arith)
  closed_later (suc n) i e = elim (ℕ_discrete (f i) s) [
    | yes q ↦ onward_last (suc n) i q ∙ sym (onward_last (suc (suc n)) i q)
    | no q ↦ more (suc n) i q ∙ ap (λ l. i ∷ l) (closed_later n (f i) (ap tail (sym (more n i q) ∙ e ∙ more (suc n) i q))) ∙ sym (more (suc (suc n)) i q)
  ]

  pub closed_more : (n i : ℕ) → ClosedBy n i → f i ≢ s → ClosedBy n (f i)
  unfolding onward tail
  closed_more zero i e q = absurd (let n = ap length e in omega arith)
  closed_more (suc n) i e q = closed_later n (f i) (ap tail (sym (more n i q) ∙ e ∙ more (suc n) i q))

  pub onward_more : (n i : ℕ) → ClosedBy n i → f i ≢ s → onward f s n i ≡ i ∷ onward f s n (f i)
  onward_more n i e q = e ∙ more n i q

-- a step of the walk from s: its dart is live in a good table, and the way on from it leads back to s
pub record OnWalk (t : List ℕ) (s at : ℕ) : Type 0 where
  pub good : good? t ≡ true
  pub live : live? t (at / 2) ≡ true
  pub closed : ClosedBy (step (rotation t)) s steps at

-- the step that came last, if one did, is one of the walk
abbrev pub OnWay : List ℕ → ℕ → Option ℕ → Type 0
OnWay t s last = ForSome last (OnWalk t s)

-- the steps to come: all, or those after `last`
abbrev pub to_come : List ℕ → ℕ → Option ℕ → List ℕ
to_come t s None = walk (rotation t) s
to_come t s (Some at) = tail (onward (step (rotation t)) s steps at)

some_same : {x y : ℕ} → Some x ≡ Some y → x ≡ y
some_same {x} {y} e = ap (λ o. unwrap_or o 0) e

pub walk_begins : {t : List ℕ} {s : ℕ} → Stands t s → OnWalk t s s
walk_begins {t} {s} h =
    let R = rotation t in
    let L = good_lawful t h.good in
    let low = stands_low h in
    let p = walk_period R L s low in
    let le = walk_period_le R L s low p in
    record {
      good = sym (good_yes t h.good);
      live = h.live;
      closed = onward_run (step R) s p steps le ∙ sym (onward_run (step R) s p (suc steps) (omega arith));
    }

module _ (t : List ℕ) (s : ℕ) where
  pub on_way_none : OnWay t s None
  on_way_none at e = absurd (none-some at e)

  pub on_way_some : (at : ℕ) → OnWalk t s at → OnWay t s (Some at)
  on_way_some at w i e = subst (OnWalk t s) (some_same e) w

  begins : (n i : ℕ) → onward (step (rotation t)) s (suc n) i ≡ i ∷ tail (onward (step (rotation t)) s (suc n) i)
  unfolding onward tail
  begins n i = refl

  pub to_come_first : (last : Option ℕ) → last ≡ None → to_come t s last ≡ s ∷ to_come t s (Some s)
  unfolding walk
  to_come_first last e = rw e (begins 4095 s)

module _ {t : List ℕ} {s at : ℕ} (w : OnWalk t s at) where
  pub on_walk_stands : Stands t at
  on_walk_stands = record { good = case_yes (good_case t) w.good; live = w.live }

  module _ {then : ℕ} (e : then ≡ step (rotation t) at) where
    pub on_walk_more : then ≢ s → OnWalk t s then
    on_walk_more q = subst (OnWalk t s) (sym e) (record {
      good = w.good;
      live = (stands_step on_walk_stands).live;
      closed = closed_more (step (rotation t)) s steps at w.closed (λ b. q (e ∙ b));
    })

    pub to_come_more : (last : Option ℕ) → last ≡ Some at → then ≢ s → to_come t s last ≡ then ∷ to_come t s (Some then)
    unfolding tail
    to_come_more last is q = rw (is, onward_more (step (rotation t)) s steps at w.closed (λ b. q (e ∙ b)), ← e) (begins t s 4095 then)

    pub to_come_none : (last : Option ℕ) → last ≡ Some at → then ≡ s → to_come t s last ≡ []
    unfolding tail
    to_come_none last is q = rw (is, onward_last (step (rotation t)) s 4095 at (sym e ∙ q)) refl
