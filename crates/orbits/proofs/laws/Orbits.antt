-- The number of orbits of a map on the live numbers below N.
--     reach_partition                      being on one orbit is an equivalence, and is decided
--     reach_live, reach_on, world_keeps    along an orbit `live` does not change
--     merge_orbits                         two orbits joined are one less
use Rattle.std.specs.Prelude.{◌≡◌, refl, Bool, ℕ, suc, ◌<◌}
use Rattle.std.proofs.Common.{◌∙◌}
use Rattle.orbits.specs.Iterate.{Inj}
use Rattle.orbits.specs.Reach.{Reach, reaches}
use Rattle.orbits.proofs.laws.Reach.{reach_here, reach_trans, reach_sym, reach_low, reach_ind, reach_says, says_reach}
use Rattle.orbits.specs.Classes.{Partition}
use Rattle.orbits.proofs.laws.Classes.{Keeps}
use Rattle.orbits.proofs.laws.Merge.{Merge, merge_classes}
use Rattle.orbits.specs.Orbits.{orbits, World, On}

pub reach_partition : {N : ℕ} {f : ℕ → ℕ} → Inj N f → Partition N (Reach f) (reaches f N)
reach_partition {N} {f} I = record {
  self = λ i h. reach_here;
  flip = λ i j h l r. reach_sym I h r;
  join = λ i j k h l m r s. reach_trans r s;
  says = λ i j h l r. reach_says I h r;
  means = λ i j h l t. says_reach f N i j t;
}

-- along an orbit `live` does not change
pub reach_live : {N : ℕ} {f : ℕ → ℕ} {live : ℕ → Bool} → World N f live → {i j : ℕ} → i < N → Reach f i j → live j ≡ live i
reach_live {N} {f} {live} W {i} {j} h r = reach_ind f (λ k. live k ≡ live i) i refl (λ k s e. W.inv k (reach_low W.perm h s) ∙ e) j r

pub reach_on : {N : ℕ} {f : ℕ → ℕ} {live : ℕ → Bool} → World N f live → {i j : ℕ} → On N live i → Reach f i j → On N live j
reach_on W o r = record { lt = reach_low W.perm o.lt r; on = reach_live W o.lt r ∙ o.on }

pub world_keeps : {N : ℕ} {f : ℕ → ℕ} {live : ℕ → Bool} → World N f live → Keeps N (Reach f) live
world_keeps W = record { keep = λ i j h l r t. reach_live W h r ∙ t }

pub merge_orbits : {N : ℕ} {f f' : ℕ → ℕ} {live : ℕ → Bool} {x y : ℕ} → World N f live → Inj N f' → On N live x → On N live y
    → Merge N (Reach f) (Reach f') x y → orbits f N live ≡ suc (orbits f' N live)
unfolding orbits
merge_orbits {live = live} {x = x} {y = y} W I a b M =
    merge_classes (reach_partition W.perm) (reach_partition I) live (world_keeps W) x y a.lt b.lt a.on b.on M
