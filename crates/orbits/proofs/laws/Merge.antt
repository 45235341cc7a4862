-- Two classes become one. Nothing of maps is in it: R and R' are equivalences below N, and R' is R with the classes of
-- x and y joined. Where these were two live classes, there is one class less.
--     Join                               i and j are in one class, or one is in the class of x and the other in that of y
--     Merge                              R' is Join R x y, and R holds x and y apart
--     join_swap, join_map, merge_swap    x and y may change places; another relation with as much in it
--     join_then, join_tr                 what stays inside the joined relation: R, and to exchange one number of x's class and one of y's
--     join_flat                          where x and y were in one class, nothing is joined
--     merge_classes                      the number falls by one
use Rattle.std.specs.Prelude.{◌≡◌, ◌≢◌, Bool, true, false, ℕ, suc, ◌<◌}
use Rattle.std.proofs.Math.Decide.{ℕ_discrete, dec_lt}
use Rattle.std.proofs.Common.{arith}
use Rattle.orbits.proofs.laws.Truth.{false_unless, same_truth}
use Rattle.orbits.proofs.laws.Count.{count_one}
use Rattle.orbits.specs.Exchange.{tr}
use Rattle.orbits.proofs.laws.Swap.{tr_left, tr_right, tr_off, position, at_left, at_right, off}
use Rattle.orbits.specs.Classes.{Partition, least, head, classes}
use Rattle.orbits.proofs.laws.Classes.{Keeps, Least, least_of, least_one, least_means, least_says, head_live, head_least, head_says}

pub data Join (R : ℕ → ℕ → Type 0) (x y i j : ℕ) : Type 0 where
  inside : R i j → Join R x y i j
  across : R i x → R y j → Join R x y i j
  back : R i y → R x j → Join R x y i j

pub record Merge (N : ℕ) (R R' : ℕ → ℕ → Type 0) (x y : ℕ) : Type 0 where
  pub apart : ¬ R x y
  pub into : (i j : ℕ) → i < N → j < N → R' i j → Join R x y i j
  pub onto : (i j : ℕ) → i < N → j < N → Join R x y i j → R' i j

pub join_swap : {R : ℕ → ℕ → Type 0} {x y i j : ℕ} → Join R x y i j → Join R y x i j
join_swap (inside q) = inside q
join_swap (across p q) = back p q
join_swap (back p q) = across p q

pub join_map : {N : ℕ} {R R' : ℕ → ℕ → Type 0} {x y i j : ℕ} → x < N → y < N → i < N → j < N → ((i j : ℕ) → i < N → j < N → R i j → R' i j)
    → Join R x y i j → Join R' x y i j
join_map a b c d s (inside q) = inside (s _ _ c d q)
join_map a b c d s (across p q) = across (s _ _ c a p) (s _ _ b d q)
join_map a b c d s (back p q) = back (s _ _ c b p) (s _ _ a d q)

module _ {N : ℕ} {R : ℕ → ℕ → Type 0} {r : ℕ → ℕ → Bool} (P : Partition N R r) {x y : ℕ} (h : x < N) (l : y < N) where
  pub join_then : {i j k : ℕ} → i < N → j < N → k < N → Join R x y i j → R j k → Join R x y i k
  join_then {i} {j} {k} a b c (inside p) s = inside (P.join i j k a b c p s)
  join_then {i} {j} {k} a b c (across p q) s = across p (P.join y j k l b c q s)
  join_then {i} {j} {k} a b c (back p q) s = back p (P.join x j k h b c q s)

  -- where x and y are in one class nothing new is joined
  pub join_flat : {i j : ℕ} → i < N → j < N → R x y → Join R x y i j → R i j
  join_flat a b e (inside p) = p
  join_flat {i} {j} a b e (across p q) = P.join i x j a h b p (P.join x y j h l b e q)
  join_flat {i} {j} a b e (back p q) = P.join i y j a l b p (P.join y x j l h b (P.flip x y h l e) q)

  -- what is joined to x is joined to y, and the other way
  join_over : {i : ℕ} → Join R x y i x → Join R x y i y
  join_over (inside p) = across p (P.self y l)
  join_over (across p q) = across p (P.self y l)
  join_over (back p q) = inside p

  join_home : {i : ℕ} → Join R x y i y → Join R x y i x
  join_home (inside p) = back p (P.self x h)
  join_home (across p q) = inside p
  join_home (back p q) = back p (P.self x h)

  -- so an exchange of one number of x's class and one of y's stays inside
  pub join_tr : {u v i k : ℕ} → u < N → v < N → i < N → R x u → R y v → Join R x y i k → Join R x y i (tr u v k)
  join_tr {u} {v} {i} {k} a b c p q t = elim (position u v k) [
    | at_left e ↦ rw (e, tr_left u v) (join_then c l b (join_over (join_then c a h (rw e at t) (P.flip x u h a p))) q)
    | at_right e ↦ rw (e, tr_right u v) (join_then c h a (join_home (join_then c b l (rw e at t) (P.flip y v l b q))) p)
    | off d e ↦ rw (tr_off u v k d e) t
  ]

pub merge_swap : {N : ℕ} {R R' : ℕ → ℕ → Type 0} {r : ℕ → ℕ → Bool} {x y : ℕ} → Partition N R r → x < N → y < N → Merge N R R' x y → Merge N R R' y x
merge_swap {N} {R} {R'} {r} {x} {y} P h l M = record {
  apart = λ q. M.apart (P.flip y x l h q);
  into = λ i j a b q. join_swap (M.into i j a b q);
  onto = λ i j a b q. M.onto i j a b (join_swap q);
}

module _ {N : ℕ} {R R' : ℕ → ℕ → Type 0} {r r' : ℕ → ℕ → Bool} (P : Partition N R r) (P' : Partition N R' r') (live : ℕ → Bool) (K : Keeps N R live) where
  -- the least member of y's class is the one that is no longer least
  lower : (x y : ℕ) → x < N → y < N → live y ≡ true → Merge N R R' x y → (a : Least N R r x) (b : Least N R r y) → a.at < b.at
      → classes r N live ≡ suc (classes r' N live)
  unfolding classes
  lower x y h l on M a b lt =
      count_one (head r live) (head r' live) b.at N b.low (head_says r live b.at (K.keep y b.at l b.low b.meet on) b.first) gone (λ i m d.
      same_truth (head r live i) (head r' live i)
      (λ t. head_says r' live i (head_live r live i t) (still i m d (head_least r live i t)))
      (λ t. head_says r live i (head_live r' live i t) (was i m (head_least r' live i t))))
    where
      to_b : R b.at y
      to_b = P.flip y b.at l b.low b.meet

      gone : head r' live b.at ≡ false
      gone = false_unless (head r' live b.at) (λ t.
          least_means P' b.at a.at b.low (head_least r' live b.at t) lt (M.onto b.at a.at b.low a.low (back to_b a.meet)))

      was : (i : ℕ) → i < N → least r' i ≡ true → least r i ≡ true
      was i m t = least_says P i m (λ j n q. least_means P' i j m t n (M.onto i j m (omega arith) (inside q)))

      still : (i : ℕ) → i < N → i ≢ b.at → least r i ≡ true → least r' i ≡ true
      still i m d t = least_says P' i m (λ j n q. by j (omega arith) n (M.into i j m (omega arith) q))
        where
          by : (j : ℕ) → j < N → j < i → Join R x y i j → ⊥
          by j o n (inside q) = least_means P i j m t n q
          by j o n (across p q) =
              let top : i ≡ a.at = least_one P i a.at m a.low t a.first (P.join i x a.at m h a.low p a.meet) in
              least_means P b.at j b.low b.first (omega arith) (P.join b.at y j b.low l o to_b q)
          by j o n (back p q) = d (least_one P i b.at m b.low t b.first (P.join i y b.at m l b.low p b.meet))

  pub merge_classes : (x y : ℕ) → x < N → y < N → live x ≡ true → live y ≡ true → Merge N R R' x y → classes r N live ≡ suc (classes r' N live)
  merge_classes x y h l on on' M = by (least_of P x h) (least_of P y l)
    where
      by : Least N R r x → Least N R r y → classes r N live ≡ suc (classes r' N live)
      by a b = elim (ℕ_discrete a.at b.at) [
        | yes e ↦ absurd (M.apart (P.join x a.at y h a.low l a.meet (rw (← e) at (P.flip y b.at l b.low b.meet))))
        | no e ↦ elim (dec_lt a.at b.at) [
          | yes m ↦ lower x y h l on' M a b m
          | no m ↦ lower y x l h on (merge_swap P h l M) b a (omega arith)
        ]
      ]
