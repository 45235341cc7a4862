-- The mirrored exchange, in terms of faces: an orbit and its mirror count as one.
--     faces_less, exch2_joins      y on another face than x: one face less, and it is the two joined
--     faces_more, exch2_parts      y on the orbit of x, and not x: one face more, and the two joined are the old one
--     faces_same, exch2_keeps      y on the mirror of the orbit of x: as many faces, with the same members
use Rattle.std.specs.Prelude.{◌≡◌, ◌≢◌, ◌↔◌, Bool, ℕ, suc, ◌<◌}
use Rattle.std.proofs.Common.{◌∙◌, ap, arith}
use Rattle.std.proofs.Math.Logic.Iff as Iff
use Rattle.std.proofs.Math.Decide.{ℕ_discrete}
use Rattle.orbits.specs.Reach.{Reach}
use Rattle.orbits.proofs.laws.Reach.{reach_here, reach_one, reach_trans, reach_sym, reach_low, reach_ind}
use Rattle.orbits.specs.Classes.{Partition}
use Rattle.orbits.specs.Exchange.{tr, exch, exch2, tr2}
use Rattle.orbits.proofs.laws.Swap.{tr_swap, tr_keeps}
use Rattle.orbits.proofs.laws.Merge.{Join, inside, across, back, Merge, join_then, join_tr, join_flat, join_map}
use Rattle.orbits.specs.Orbits.{On}
use Rattle.orbits.proofs.laws.Exchange.{exch_joins}
use Rattle.orbits.proofs.laws.ExchangeParts.{exch_parts}
use Rattle.orbits.specs.Mirror.{Mirror}
use Rattle.orbits.proofs.laws.Mirror.{mirror_world, opposite_low, opposite_reach, no_self}
use Rattle.orbits.specs.Faces.{Face, along, mirrored, faced, face_classes}
use Rattle.orbits.proofs.laws.Faces.{face_flip, face_partition, orbits_pair}
use Rattle.orbits.proofs.laws.MirrorExchange.{exch2_at, exch2_world, exch2_mirror, exch2_back, exch2_left, exch2_right, exch2_undo, tr2_low, exch2_less, exch2_more}
use Rattle.orbits.proofs.laws.MirrorExchange.{exch2_same, less_joins, more_parts, same_parts, mirror_apart}

module _ {N : ℕ} {f m : ℕ → ℕ} {live : ℕ → Bool} (E : Mirror N f m live) {x y : ℕ} (a : On N live x) (b : On N live y) where
  -- The faces after it. In all cases a step of the new map stays inside the old faces with those of x and y joined,
  -- and a step of the old map inside the new faces, with those of x and y joined.
  opposite_face : {i : ℕ} → i < N → Face f m i (m (f i))
  opposite_face {i} h = mirrored (rw (E.twice (f i) (E.fwd i h)) (reach_one i))

  exch2_inside : (i j : ℕ) → i < N → j < N → Face (exch2 f m x y) m i j → Join (Face f m) x y i j
  unfolding tr2
  exch2_inside i j h l q = by q
    where
      P : Partition N (Face f m) (faced f m N)
      P = face_partition E

      step : (k : ℕ) → k < N → Join (Face f m) x y i k → Join (Face f m) x y i (exch2 f m x y k)
      step k n t =
          let low = tr2_low E a b k n in
          rw (exch2_at f m x y k)
          (join_then P a.lt b.lt h low (E.fwd _ low)
          (join_tr P a.lt b.lt a.lt b.lt h (along reach_here) (along reach_here)
          (join_tr P a.lt b.lt (opposite_low E a.lt) (opposite_low E b.lt) h (opposite_face a.lt) (opposite_face b.lt) t))
          (along (reach_one _)))

      walk : (k : ℕ) → Reach (exch2 f m x y) i k → Join (Face f m) x y i k
      walk k r =
          reach_ind (exch2 f m x y) (Join (Face f m) x y i) i (inside (along reach_here)) (λ k s t. step k (reach_low (exch2_world E a b).perm h s) t) k r

      by : Face (exch2 f m x y) m i j → Join (Face f m) x y i j
      by (along r) = walk j r
      by (mirrored r) = join_then P a.lt b.lt h (E.low j l) l (walk (m j) r) (mirrored reach_here)

  exch2_outside : y ≢ m (f x) → (i j : ℕ) → i < N → j < N → Face f m i j → Join (Face (exch2 f m x y) m) x y i j
  exch2_outside c i j h l q = by q
    where
      g : ℕ → ℕ
      g = exch2 f m x y

      P : Partition N (Face g m) (faced g m N)
      P = face_partition (exch2_mirror E a b)

      x_side : Face g m x (m (f y))
      x_side = mirrored (rw (E.twice (f y) (E.fwd y b.lt), ← (exch2_left E a b c)) (reach_one x))

      y_side : Face g m y (m (f x))
      y_side = mirrored (rw (E.twice (f x) (E.fwd x a.lt), ← (exch2_right E a b c)) (reach_one y))

      undone : (k : ℕ) → g (tr (m (f y)) (m (f x)) (tr x y k)) ≡ f k
      undone k = ap g (tr_swap (m (f y)) (m (f x)) (tr x y k)) ∙ exch2_undo f m x y k

      step : (k : ℕ) → k < N → Join (Face g m) x y i k → Join (Face g m) x y i (f k)
      step k n t =
          let u = opposite_low E a.lt in
          let v = opposite_low E b.lt in
          let low = tr_keeps (λ j. j < N) (m (f y)) (m (f x)) (tr x y k) v u (tr_keeps (λ j. j < N) x y k a.lt b.lt n) in
          rw (← (undone k))
          (join_then P a.lt b.lt h low ((exch2_world E a b).perm.fwd _ low)
          (join_tr P a.lt b.lt v u h x_side y_side
          (join_tr P a.lt b.lt a.lt b.lt h (along reach_here) (along reach_here) t))
          (along (reach_one _)))

      walk : (k : ℕ) → Reach f i k → Join (Face g m) x y i k
      walk k r =
          reach_ind f (Join (Face g m) x y i) i (inside (along reach_here)) (λ k s t. step k (reach_low (mirror_world E).perm h s) t) k r

      by : Face f m i j → Join (Face g m) x y i j
      by (along r) = walk j r
      by (mirrored r) = join_then P a.lt b.lt h (E.low j l) l (walk (m j) r) (mirrored reach_here)

  module _ (apart : ¬ Reach f x y) (mapart : ¬ Reach f x (m y)) where
    pub exch2_joins : Merge N (Face f m) (Face (exch2 f m x y) m) x y
    exch2_joins = record {
      apart = other;
      into = exch2_inside;
      onto = λ i j h l t. join_flat P a.lt b.lt h l meet (join_map a.lt b.lt h l kept t);
    }
      where
        P : Partition N (Face (exch2 f m x y) m) (faced (exch2 f m x y) m N)
        P = face_partition (exch2_mirror E a b)

        other : ¬ Face f m x y
        other (along r) = apart r
        other (mirrored r) = mapart r

        c : y ≢ m (f x)
        c e = mapart (rw (e, E.twice (f x) (E.fwd x a.lt)) (reach_one x))

        meet : Face (exch2 f m x y) m x y
        meet =
            along ((less_joins E a b apart mapart).onto x y a.lt b.lt
            (inside ((exch_joins (mirror_world E).perm a.lt b.lt apart).onto x y a.lt b.lt (across reach_here reach_here))))

        kept : (i j : ℕ) → i < N → j < N → Face f m i j → Face (exch2 f m x y) m i j
        kept i j h l q = join_flat P a.lt b.lt h l meet (exch2_outside c i j h l q)

    pub faces_less : face_classes f m N live ≡ suc (face_classes (exch2 f m x y) m N live)
    faces_less = omega (arith, orbits_pair E, orbits_pair (exch2_mirror E a b), exch2_less E a b apart mapart)

  module _ (d : x ≢ y) (r : Reach f x y) where
    pub exch2_parts : Merge N (Face (exch2 f m x y) m) (Face f m) x y
    exch2_parts = record {
      apart = other;
      into = exch2_outside c;
      onto = λ i j h l t. join_flat P a.lt b.lt h l (along r) (join_map a.lt b.lt h l kept t);
    }
      where
        P : Partition N (Face f m) (faced f m N)
        P = face_partition E

        kept : (i j : ℕ) → i < N → j < N → Face (exch2 f m x y) m i j → Face f m i j
        kept i j h l q = join_flat P a.lt b.lt h l (along r) (exch2_inside i j h l q)

        c : y ≢ m (f x)
        c e = no_self E a (reach_trans (rw e at r) (opposite_reach E a.lt))

        first : {i j : ℕ} → i < N → j < N → Reach (exch2 f m x y) i j → Reach (exch f x y) i j
        first h l s = (more_parts E a b d r).onto _ _ h l (inside s)

        other : ¬ Face (exch2 f m x y) m x y
        other (along s) = (exch_parts (mirror_world E).perm a.lt b.lt d r).apart (first a.lt b.lt s)
        other (mirrored s) =
            let I = (mirror_world E).perm in
            let low = E.low y b.lt in
            let old : Reach f x (m y) = (exch_parts I a.lt b.lt d r).onto x (m y) a.lt low (inside (first a.lt low s)) in
            no_self E b (reach_trans (reach_sym I a.lt r) old)

    pub faces_more : face_classes (exch2 f m x y) m N live ≡ suc (face_classes f m N live)
    faces_more = omega (arith, orbits_pair E, orbits_pair (exch2_mirror E a b), exch2_more E a b d r)

  module _ (r : Reach f x (m y)) where
    pub exch2_keeps : (i j : ℕ) → i < N → j < N → Face (exch2 f m x y) m i j ↔ Face f m i j
    exch2_keeps i j h l = elim (ℕ_discrete y (m (f x))) [
      | yes e ↦ rw (exch2_back E a b e) Iff.rfl
      | no c ↦ (
        λ q. join_flat (face_partition E) a.lt b.lt h l (mirrored r) (exch2_inside i j h l q),
        λ q. join_flat (face_partition G) a.lt b.lt h l (meet c) (exch2_outside c i j h l q),
      )
    ]
      where
        G : Mirror N (exch2 f m x y) m live
        G = exch2_mirror E a b

        -- the opposite of y is now on the mirror of the orbit of x
        side : y ≢ m (f x) → Reach (exch2 f m x y) (m (f y)) (m x)
        side c = rw (exch2_left E a b c) at (opposite_reach G a.lt)

        meet : y ≢ m (f x) → Face (exch2 f m x y) m x y
        meet c = by ((same_parts E a b r).into x y a.lt b.lt
            ((exch_joins (mirror_world E).perm a.lt b.lt (mirror_apart E a b r)).onto x y a.lt b.lt (across reach_here reach_here)))
          where
            by : Join (Reach (exch2 f m x y)) (m (f x)) (m (f y)) x y → Face (exch2 f m x y) m x y
            by (inside s) = along s
            by (across p q) =
                face_flip G b.lt a.lt (mirrored (reach_trans (reach_sym (exch2_world E a b).perm (opposite_low E b.lt) q) (side c)))
            by (back p q) = absurd (no_self G a (reach_trans p (side c)))

    pub faces_same : face_classes (exch2 f m x y) m N live ≡ face_classes f m N live
    faces_same = omega (arith, orbits_pair E, orbits_pair (exch2_mirror E a b), exch2_same E a b r)
