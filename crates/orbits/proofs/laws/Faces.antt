-- A face is an orbit with its mirror image. No orbit is its own mirror, so there are half as many faces as orbits.
--     face_flip, face_trans, face_partition    being on one face is an equivalence, and is decided
--     face_keeps                               a face is live as a whole, or not at all
--     orbits_pair                              twice as many orbits
--     faces_live, faces_split                  equal live sets; a live set in two exclusive parts
--     reps_faces                               one number for each live face: as many as there are faces
use Rattle.std.specs.Prelude.{◌≡◌, Bool, false, ◌&&◌, ◌||◌, ℕ, ◌+◌, ◌*◌, ◌<◌}
use Rattle.std.proofs.Common.{sym, ◌∙◌, ap, subst, arith}
use Rattle.std.proofs.Math.Bool.{true, not, true-or, or-true, false-or}
use borrow.Author.Tests.{not-true}
use Rattle.orbits.proofs.laws.Truth.{Truth, truth, holds, fails, clash, both, both_left, both_right, same_truth, false_unless}
use Rattle.orbits.specs.Count.{count, Partner}
use Rattle.orbits.proofs.laws.Count.{count_same, count_part}
use Rattle.orbits.specs.Reach.{Reach, reaches}
use Rattle.orbits.proofs.laws.Reach.{reach_here, reach_trans, reach_sym, reach_says, says_reach}
use Rattle.orbits.specs.Classes.{Partition, least, head, classes}
use Rattle.orbits.proofs.laws.Classes.{Keeps, classes_same, classes_split, Least, least_of, least_one, least_means, least_says, head_live, head_least, head_says, Reps, reps_count}
use Rattle.orbits.specs.Orbits.{orbits, On}
use Rattle.orbits.proofs.laws.Orbits.{reach_partition, reach_live, reach_on}
use Rattle.orbits.specs.Mirror.{Mirror}
use Rattle.orbits.proofs.laws.Mirror.{mirror_world, mirror_on, reach_mirror, mirror_reach, no_self}
use Rattle.orbits.specs.Faces.{Face, along, mirrored, faced, face_classes}

module _ {N : ℕ} {f m : ℕ → ℕ} {live : ℕ → Bool} (E : Mirror N f m live) where
  pub face_flip : {i j : ℕ} → i < N → j < N → Face f m i j → Face f m j i
  face_flip h l (along r) = along (reach_sym (mirror_world E).perm h r)
  face_flip {i} {j} h l (mirrored r) = mirrored (rw (E.twice j l) at (reach_mirror E h r))

  pub face_trans : {i j k : ℕ} → j < N → k < N → Face f m i j → Face f m j k → Face f m i k
  face_trans l n (along r) (along s) = along (reach_trans r s)
  face_trans l n (along r) (mirrored s) = mirrored (reach_trans r s)
  face_trans l n (mirrored r) (along s) = mirrored (reach_trans r (mirror_reach E l s))
  face_trans {k = k} l n (mirrored r) (mirrored s) = along (reach_trans r (rw (E.twice k n) at (mirror_reach E l s)))

  pub face_partition : Partition N (Face f m) (faced f m N)
  unfolding faced
  face_partition = record {
    self = λ i h. along reach_here;
    flip = λ i j h l q. face_flip h l q;
    join = λ i j k h l n p q. face_trans l n p q;
    says = λ i j h l q. says i j h q;
    means = λ i j h l t. means i j t (truth (reaches f N i j));
  }
    where
      says : (i j : ℕ) → i < N → Face f m i j → (reaches f N i j || reaches f N i (m j)) ≡ true
      says i j h (along r) = rw (reach_says (mirror_world E).perm h r) (true-or (reaches f N i (m j)))
      says i j h (mirrored r) = rw (reach_says (mirror_world E).perm h r) (or-true (reaches f N i j))

      means : (i j : ℕ) → (reaches f N i j || reaches f N i (m j)) ≡ true → Truth (reaches f N i j) → Face f m i j
      means i j t (holds s) = along (says_reach f N i j s)
      means i j t (fails s) = mirrored (says_reach f N i (m j) (sym (false-or (reaches f N i (m j))) ∙ (rw s at t)))

  pub face_keeps : Keeps N (Face f m) live
  face_keeps = record { keep = λ i j h l q t. keep i j h l q ∙ t }
    where
      keep : (i j : ℕ) → i < N → j < N → Face f m i j → live j ≡ live i
      keep i j h l (along r) = reach_live (mirror_world E) h r
      keep i j h l (mirrored r) = sym (E.keep j l) ∙ reach_live (mirror_world E) h r

  -- the least of a face is least on its orbit
  least_face : (i : ℕ) → i < N → least (faced f m N) i ≡ true → least (reaches f N) i ≡ true
  least_face i h t = least_says (reach_partition (mirror_world E).perm) i h (λ j l r. least_means face_partition i j h t l (along r))

  first_head : (i : ℕ) → i < N → (head (reaches f N) live i && least (faced f m N) i) ≡ head (faced f m N) live i
  first_head i h =
      same_truth (head (reaches f N) live i && least (faced f m N) i) (head (faced f m N) live i)
      (λ t. head_says (faced f m N) live i (head_live (reaches f N) live i (both_left _ (least (faced f m N) i) t)) (both_right (head (reaches f N) live i) _ t))
      (λ t. lower t (head_least (faced f m N) live i t))
    where
      lower : head (faced f m N) live i ≡ true → least (faced f m N) i ≡ true → (head (reaches f N) live i && least (faced f m N) i) ≡ true
      lower t first = both (head_says (reaches f N) live i (head_live (faced f m N) live i t) (least_face i h first)) first

  -- the orbits whose least member is not the least of their face: one of each face
  other : ℕ → Bool
  other i = head (reaches f N) live i && not (least (faced f m N) i)

  other_head : (i : ℕ) → other i ≡ true → head (reaches f N) live i ≡ true
  unfolding other
  other_head i t = both_left (head (reaches f N) live i) (not (least (faced f m N) i)) t

  other_upper : (i : ℕ) → other i ≡ true → least (faced f m N) i ≡ false
  unfolding other
  other_upper i t = not-true (least (faced f m N) i) (both_right (head (reaches f N) live i) (not (least (faced f m N) i)) t)

  -- such a one lies on the mirror of the orbit of the face's least member a
  other_side : (i a : ℕ) → i < N → a < N → other i ≡ true → least (faced f m N) a ≡ true → Face f m i a → Reach f i (m a)
  other_side i a h l t u (along r) =
      let same = least_one (reach_partition (mirror_world E).perm) i a h l (head_least (reaches f N) live i (other_head i t)) (least_face a l u) r in
      absurd (clash u (rw same at (other_upper i t)))
  other_side i a h l t u (mirrored r) = r

  -- and the least member of that orbit is such a one
  other_hit : (i : ℕ) → On N live i → (a : Least N (Face f m) (faced f m N) i) → Least N (Reach f) (reaches f N) (m a.at)
      → Partner (λ i j. Face f m i j) other N i
  unfolding other
  other_hit i o a b = record {
    to = b.at;
    low = b.low;
    pass = both (head_says (reaches f N) live b.at lives.on b.first) (ap not upper);
    pair = face_trans a.low b.low a.meet meet;
  }
    where
      lives : On N live b.at
      lives = reach_on (mirror_world E) (mirror_on E (record { lt = a.low; on = face_keeps.keep i a.at o.lt a.low a.meet o.on })) b.meet

      back : Reach f b.at (m a.at)
      back = reach_sym (mirror_world E).perm (E.low a.at a.low) b.meet

      meet : Face f m a.at b.at
      meet = face_flip b.low a.low (mirrored back)

      upper : least (faced f m N) b.at ≡ false
      upper = false_unless (least (faced f m N) b.at) (λ u.
          let same = least_one face_partition a.at b.at a.low b.low a.first u meet in
          no_self E lives (subst (λ k. Reach f b.at (m k)) same back))

  other_reps : Reps N N (Face f m) other live (λ i. i)
  other_reps = record {
    low = λ j h t. h;
    on = λ j h t. head_live (reaches f N) live j (other_head j t);
    hit = λ i h t.
        let a = least_of face_partition i h in
        other_hit i (record { lt = h; on = t }) a (least_of (reach_partition (mirror_world E).perm) (m a.at) (E.low a.at a.low));
    one = λ i j h l s t q.
        let a = least_of face_partition i h in
        let I = (mirror_world E).perm in
        let here = other_side i a.at h a.low s a.first a.meet in
        let there = other_side j a.at l a.low t a.first (face_trans h a.low (face_flip h l q) a.meet) in
        least_one (reach_partition I) i j h l (head_least (reaches f N) live i (other_head i s)) (head_least (reaches f N) live j (other_head j t))
        (reach_trans here (reach_sym I l there));
  }

  pub orbits_pair : orbits f N live ≡ 2 * face_classes f m N live
  unfolding orbits face_classes classes other
  orbits_pair = omega (arith, count_part (head (reaches f N) live) (least (faced f m N)) N, one, two)
    where
      one : count (λ i. head (reaches f N) live i && least (faced f m N) i) N ≡ count (head (faced f m N) live) N
      one = count_same _ _ N first_head

      two : count (λ i. head (reaches f N) live i && not (least (faced f m N) i)) N ≡ count (head (faced f m N) live) N
      two = reps_count face_partition face_keeps other_reps

pub reps_faces : {M N : ℕ} {f m : ℕ → ℕ} {t live : ℕ → Bool} {φ : ℕ → ℕ} → Mirror N f m live → Reps M N (Face f m) t live φ
    → count t M ≡ face_classes f m N live
unfolding face_classes
reps_faces E S = reps_count (face_partition E) (face_keeps E) S

-- another live set: an equal one, or one in two exclusive parts
pub faces_live : (f m : ℕ → ℕ) (N : ℕ) (live on : ℕ → Bool) → ((i : ℕ) → i < N → live i ≡ on i) → face_classes f m N live ≡ face_classes f m N on
unfolding face_classes
faces_live f m N = classes_same (faced f m N) N

pub faces_split : (f m : ℕ → ℕ) (N : ℕ) (live a b : ℕ → Bool) → ((i : ℕ) → i < N → live i ≡ (a i || b i))
    → ((i : ℕ) → i < N → a i ≡ true → b i ≡ true → ⊥) → face_classes f m N live ≡ face_classes f m N a + face_classes f m N b
unfolding face_classes
faces_split f m N = classes_split (faced f m N) N
