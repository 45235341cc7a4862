-- One map that follows another: g goes on from j to the next marked number after φ j on the orbit of f. So φ may rename
-- points, and the numbers that are not marked are passed over. Where each live orbit of f meets φ, the two maps have the same
-- orbits, and as many.
--     skip_reach                     the next marked number is on the orbit
--     reach_follow, face_follow      on one orbit, on one face of g exactly if the images are on one of f
--     orbits_follow, faces_follow    as many orbits; as many faces
--     agree_follows, faces_agree     for maps that agree on live numbers
use Rattle.std.specs.Prelude.{◌≡◌, refl, ◌↔◌, Bool, false, ℕ}
use Rattle.std.proofs.Common.{sym, arith}
use Rattle.orbits.proofs.laws.Truth.{clash}
use Rattle.orbits.specs.Reach.{Reach}
use Rattle.orbits.proofs.laws.Reach.{reach_here, reach_step, reach_one, reach_trans, reach_sym, reach_ind}
use Rattle.orbits.proofs.laws.Classes.{carry_classes}
use Rattle.orbits.specs.Orbits.{orbits, World, On}
use Rattle.orbits.proofs.laws.Orbits.{reach_partition, reach_on, world_keeps}
use Rattle.orbits.specs.Mirror.{Mirror}
use Rattle.orbits.proofs.laws.Mirror.{mirror_world}
use Rattle.orbits.specs.Faces.{Face, along, mirrored, face_classes}
use Rattle.orbits.proofs.laws.Faces.{orbits_pair}
use Rattle.orbits.specs.Follow.{Skip, land, pass, Follows}

pub skip_reach : {f : ℕ → ℕ} {marked : ℕ → Bool} {i j : ℕ} → Skip f marked i j → Reach f i j
skip_reach (land {i = i} k e) = rw (← e) (reach_one i)
skip_reach (pass {i = i} k s) = reach_trans (reach_one i) (skip_reach s)

-- on the way along f: k is the image of a number that g has reached, or lies between it and the next
data Way (g f : ℕ → ℕ) (marked : ℕ → Bool) (φ : ℕ → ℕ) (i k : ℕ) : Type 0 where
  here : (last : ℕ) → Reach g i last → φ last ≡ k → Way g f marked φ i k
  between : (last : ℕ) → Reach g i last → marked k ≡ false → Skip f marked k (φ (g last)) → Way g f marked φ i k

module _ {M N : ℕ} {g f : ℕ → ℕ} {on live marked : ℕ → Bool} {φ : ℕ → ℕ} (U : World M g on) (W : World N f live) (S : Follows M N g f on live marked φ) where
  pub reach_follow : {i j : ℕ} → On M on i → On M on j → Reach g i j ↔ Reach f (φ i) (φ j)
  reach_follow {i} {j} o p =
      (forth, λ r. arrive (reach_ind f (Way g f marked φ i) (φ i) (here i reach_here refl) (λ k s w. step w) (φ j) r))
    where
      forth : Reach g i j → Reach f (φ i) (φ j)
      forth r = reach_ind g (λ k. Reach f (φ i) (φ k)) i reach_here (λ k s t. reach_trans t (skip_reach (S.skip k (reach_on U o s)))) j r

      next : (k last : ℕ) → Reach g i last → Skip f marked k (φ (g last)) → Way g f marked φ i (f k)
      next k last t (land n e) = here (g last) (reach_step t) (sym e)
      next k last t (pass n s) = between last t n s

      step : {k : ℕ} → Way g f marked φ i k → Way g f marked φ i (f k)
      step {k} (here last t e) = next k last t (rw e at (S.skip last (reach_on U o t)))
      step {k} (between last t n s) = next k last t s

      arrive : Way g f marked φ i (φ j) → Reach g i j
      arrive (here last t e) = rw (S.one last j (reach_on U o t) p e) at t
      arrive (between last t n s) = absurd (clash (S.mark j p) n)

  pub orbits_follow : orbits g M on ≡ orbits f N live
  unfolding orbits
  orbits_follow =
      carry_classes (reach_partition U.perm) (reach_partition W.perm) (world_keeps U) (world_keeps W) (record {
        low = λ j h t. (S.lives j (record { lt = h; on = t })).lt;
        lives = λ j h t. (S.lives j (record { lt = h; on = t })).on;
        fit = λ i j h l s t. (reach_follow (record { lt = h; on = s }) (record { lt = l; on = t })).0;
        unfit = λ i j h l s t. (reach_follow (record { lt = h; on = s }) (record { lt = l; on = t })).1;
        hit = λ i h t. S.meet i (record { lt = h; on = t });
      })

  -- n mirrors g and m mirrors f: the image of a mirror is on the orbit of the mirror of the image
  pub face_follow : {n m : ℕ → ℕ} → ((j : ℕ) → On M on j → On M on (n j)) → ((j : ℕ) → On M on j → Reach f (φ (n j)) (m (φ j)))
      → {i j : ℕ} → On M on i → On M on j → Face g n i j ↔ Face f m (φ i) (φ j)
  face_follow {n} {m} keep near {i} {j} o p = (forth, back)
    where
      forth : Face g n i j → Face f m (φ i) (φ j)
      forth (along r) = along ((reach_follow o p).0 r)
      forth (mirrored r) = mirrored (reach_trans ((reach_follow o (keep j p)).0 r) (near j p))

      back : Face f m (φ i) (φ j) → Face g n i j
      back (along r) = along ((reach_follow o p).1 r)
      back (mirrored r) =
          mirrored ((reach_follow o (keep j p)).1 (reach_trans r (reach_sym W.perm (S.lives (n j) (keep j p)).lt (near j p))))

pub faces_follow : {M N : ℕ} {g n f m : ℕ → ℕ} {on live marked : ℕ → Bool} {φ : ℕ → ℕ} → Mirror M g n on → Mirror N f m live
    → Follows M N g f on live marked φ → face_classes g n M on ≡ face_classes f m N live
faces_follow G E S = omega (arith, orbits_pair G, orbits_pair E, orbits_follow (mirror_world G) (mirror_world E) S)

-- maps that agree on live numbers follow one another
pub agree_follows : {N : ℕ} {f g : ℕ → ℕ} {live : ℕ → Bool} → World N f live → ((i : ℕ) → On N live i → f i ≡ g i)
    → Follows N N f g live live live (λ i. i)
agree_follows {N} {f} {g} {live} W e = record {
  lives = λ j o. o;
  mark = λ j o. o.on;
  one = λ i j o p q. q;
  skip = λ j o. land (reach_on W o (reach_one j)).on (sym (e j o));
  meet = λ i o. record { to = i; low = o.lt; pass = o.on; pair = reach_here };
}

pub faces_agree : {N : ℕ} {f m g n : ℕ → ℕ} {live : ℕ → Bool} → Mirror N f m live → Mirror N g n live → ((i : ℕ) → On N live i → f i ≡ g i)
    → face_classes f m N live ≡ face_classes g n N live
faces_agree E G e = faces_follow E G (agree_follows (mirror_world E) e)
