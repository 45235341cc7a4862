-- A number that f fixes is alone in its orbit.
--     reach_alone, orbits_alone, alone_world    a fixed number is alone; without it there is one orbit less
use Rattle.std.specs.Prelude.{◌≡◌, refl, Bool, ℕ, suc, ◌<◌}
use Rattle.std.proofs.Common.{sym, ◌∙◌, ap, arith}
use Rattle.std.proofs.Math.Decide.{ℕ_discrete}
use Rattle.orbits.proofs.laws.Truth.{clash, false_unless}
use Rattle.orbits.proofs.laws.Count.{count_one, without, without_at, without_other}
use Rattle.orbits.specs.Reach.{Reach, reaches}
use Rattle.orbits.proofs.laws.Reach.{reach_ind}
use Rattle.orbits.specs.Classes.{head, classes}
use Rattle.orbits.proofs.laws.Classes.{least_says, head_live, head_says}
use Rattle.orbits.specs.Orbits.{orbits, World, On}
use Rattle.orbits.proofs.laws.Orbits.{reach_partition}

-- a fixed number is alone in its orbit
pub reach_alone : {f : ℕ → ℕ} {z j : ℕ} → f z ≡ z → Reach f z j → j ≡ z
reach_alone {f} {z} {j} e r = reach_ind f (λ k. k ≡ z) z refl (λ k s q. ap f q ∙ e) j r

pub alone_world : {N : ℕ} {f : ℕ → ℕ} {live : ℕ → Bool} {z : ℕ} → World N f live → z < N → f z ≡ z → World N f (without live z)
alone_world {N} {f} {live} {z} W h e = record {
  perm = W.perm;
  inv = λ i l. elim (ℕ_discrete i z) [
    | yes s ↦ rw (s, e)
    | no d ↦ rw (without_other live z i d, without_other live z (f i) (λ q. d (W.perm.inj i z l h (q ∙ sym e)))) (W.inv i l)
  ];
}

pub orbits_alone : {N : ℕ} {f : ℕ → ℕ} {live : ℕ → Bool} {z : ℕ} → World N f live → On N live z → f z ≡ z
    → orbits f N live ≡ suc (orbits f N (without live z))
unfolding orbits classes head
orbits_alone {N} {f} {live} {z} W o e =
    count_one (head (reaches f N) live) (head (reaches f N) (without live z)) z N o.lt
    (head_says (reaches f N) live z o.on
    (least_says (reach_partition W.perm) z o.lt (λ j l r. let s = reach_alone e r in omega arith)))
    (false_unless _ (λ t. clash (head_live (reaches f N) (without live z) z t) (without_at live z)))
    (λ i h d. rw (without_other live z i d))
