-- The number of classes of a decided equivalence below N: how many numbers are least in their class. Only the classes
-- of live numbers are counted, where `live` is any test that is constant on classes.
--     least_means, least_says                    no smaller number is in the class
--     Least, least_of, least_one                 each class has one least member, and no two
--     head_live, head_least, head_says           a number that counts for its class is live and least
--     Keeps                                      a test that is constant on classes
--     Reps, reps_count                           any system of representatives, indexed as one likes, is as large as there are classes
--     Carry, carry_classes                       a map that takes classes to classes, one to one and onto, keeps their number
--     classes_same, classes_split, classes_le    equal live sets; a live set in two exclusive parts; no more classes than live numbers
--     classes_none, classes_some, classes_one    no live number; some live number; all live numbers in one class
use Rattle.std.specs.Prelude.{◌≡◌, refl, Bool, true, false, ◌||◌, ℕ, zero, ◌+◌, ◌<◌, ◌≤◌}
use Rattle.std.proofs.Common.{sym, ◌∙◌, arith, eq-eqb, eqb-true}
use Rattle.std.proofs.Math.Bool.{Bool-discrete, and-or_distrib_right}
use Rattle.std.proofs.Math.Decide.{ℕ_discrete, dec_lt}
use Rattle.orbits.proofs.laws.Truth.{clash, both, both_left, both_right, false_unless, First, first, found, none}
use Rattle.orbits.specs.Count.{count, Partner}
use Rattle.orbits.proofs.laws.Count.{count_same, count_none, count_all, none_counted, count_some, count_split, count_fewer, count_onto}
use Rattle.orbits.specs.Classes.{Partition, least, head, classes}

pub least_means : {N : ℕ} {R : ℕ → ℕ → Type 0} {r : ℕ → ℕ → Bool} → Partition N R r → (i j : ℕ) → i < N → least r i ≡ true → j < i → ¬ R i j
unfolding least
least_means {N} {R} {r} P i j h t l q = clash (P.says i j h (omega arith) q) (none_counted (r i) i (eqb-true _ _ t) j l)

pub least_says : {N : ℕ} {R : ℕ → ℕ → Type 0} {r : ℕ → ℕ → Bool} → Partition N R r → (i : ℕ) → i < N → ((j : ℕ) → j < i → ¬ R i j) → least r i ≡ true
unfolding least
least_says {N} {R} {r} P i h out =
    eq-eqb _ _ (count_none (r i) i (λ j l. false_unless (r i j) (λ t. out j l (P.means i j h (omega arith) t))))

-- the least member of a class
pub record Least (N : ℕ) (R : ℕ → ℕ → Type 0) (r : ℕ → ℕ → Bool) (i : ℕ) : Type 0 where
  pub at : ℕ
  pub low : at < N
  pub meet : R i at
  pub first : least r at ≡ true

pub least_of : {N : ℕ} {R : ℕ → ℕ → Type 0} {r : ℕ → ℕ → Bool} → Partition N R r → (i : ℕ) → i < N → Least N R r i
least_of {N} {R} {r} P i h = by (first (λ j. r i j ≡ true) (λ j. Bool-discrete (r i j) true) N)
  where
    by : First (λ j. r i j ≡ true) N → Least N R r i
    by (found k l t before) =
        let meet : R i k = P.means i k h l t in
        record {
          at = k;
          low = l;
          meet = meet;
          first = least_says P k l (λ j m q.
              let low : j < N = omega arith in
              before j m (P.says i j h low (P.join i k j h l low meet q)));
        }
    by (none out) = absurd (out i h (P.says i i h h (P.self i h)))

pub least_one : {N : ℕ} {R : ℕ → ℕ → Type 0} {r : ℕ → ℕ → Bool} → Partition N R r → (i j : ℕ) → i < N → j < N
    → least r i ≡ true → least r j ≡ true → R i j → i ≡ j
least_one {N} {R} {r} P i j h l s t q = elim (ℕ_discrete i j) [
  | yes e ↦ e
  | no e ↦ elim (dec_lt i j) [
    | yes m ↦ absurd (least_means P j i l t m (P.flip i j h l q))
    | no m ↦ absurd (least_means P i j h s (omega arith) q)
  ]
]

pub head_live : (r : ℕ → ℕ → Bool) (live : ℕ → Bool) (i : ℕ) → head r live i ≡ true → live i ≡ true
unfolding head
head_live r live i t = both_left (live i) (least r i) t

pub head_least : (r : ℕ → ℕ → Bool) (live : ℕ → Bool) (i : ℕ) → head r live i ≡ true → least r i ≡ true
unfolding head
head_least r live i t = both_right (live i) (least r i) t

pub head_says : (r : ℕ → ℕ → Bool) (live : ℕ → Bool) (i : ℕ) → live i ≡ true → least r i ≡ true → head r live i ≡ true
unfolding head
head_says r live i s t = both s t

-- a test that is constant on classes
pub record Keeps (N : ℕ) (R : ℕ → ℕ → Type 0) (live : ℕ → Bool) : Type 0 where
  pub keep : (i j : ℕ) → i < N → j < N → R i j → live i ≡ true → live j ≡ true

-- t j, below M, names the class of φ j: one name for each live class
pub record Reps (M N : ℕ) (R : ℕ → ℕ → Type 0) (t live : ℕ → Bool) (φ : ℕ → ℕ) : Type 0 where
  pub low : (j : ℕ) → j < M → t j ≡ true → φ j < N
  pub on : (j : ℕ) → j < M → t j ≡ true → live (φ j) ≡ true
  pub hit : (i : ℕ) → i < N → live i ≡ true → Partner (λ i j. R i (φ j)) t M i
  pub one : (i j : ℕ) → i < M → j < M → t i ≡ true → t j ≡ true → R (φ i) (φ j) → i ≡ j

pub reps_count : {M N : ℕ} {R : ℕ → ℕ → Type 0} {r : ℕ → ℕ → Bool} {t live : ℕ → Bool} {φ : ℕ → ℕ} → Partition N R r → Keeps N R live
    → Reps M N R t live φ → count t M ≡ classes r N live
unfolding classes
reps_count {M} {N} {R} {r} {t} {live} {φ} P K S = count_onto (λ j i. R (φ j) i) t (head r live) M N least_named named one_name one_least
  where
    least_named : (j : ℕ) → j < M → t j ≡ true → Partner (λ j i. R (φ j) i) (head r live) N j
    least_named j h p =
        let low = S.low j h p in
        let l = least_of P (φ j) low in
        let on = K.keep (φ j) l.at low l.low l.meet (S.on j h p) in
        record { to = l.at; low = l.low; pass = head_says r live l.at on l.first; pair = l.meet }

    named : (i : ℕ) → i < N → head r live i ≡ true → Partner (λ i j. R (φ j) i) t M i
    named i h p =
        let q = S.hit i h (head_live r live i p) in
        record { to = q.to; low = q.low; pass = q.pass; pair = P.flip i (φ q.to) h (S.low q.to q.low q.pass) q.pair }

    one_name : (i j k : ℕ) → i < M → j < M → k < N → t i ≡ true → t j ≡ true → head r live k ≡ true → R (φ i) k → R (φ j) k → i ≡ j
    one_name i j k h l m p q u a b =
        let li = S.low i h p in
        let lj = S.low j l q in
        S.one i j h l p q (P.join (φ i) k (φ j) li m lj a (P.flip (φ j) k lj m b))

    one_least : (i j k : ℕ) → i < N → j < N → k < M → head r live i ≡ true → head r live j ≡ true → t k ≡ true → R (φ k) i → R (φ k) j → i ≡ j
    one_least i j k h l m p q u a b =
        let lk = S.low k m u in
        least_one P i j h l (head_least r live i p) (head_least r live j q) (P.join i (φ k) j h lk l (P.flip (φ k) i lk h a) b)

-- φ takes the live classes of S below M to those of R below N, one to one and onto
pub record Carry (M N : ℕ) (S R : ℕ → ℕ → Type 0) (on live : ℕ → Bool) (φ : ℕ → ℕ) : Type 0 where
  pub low : (j : ℕ) → j < M → on j ≡ true → φ j < N
  pub lives : (j : ℕ) → j < M → on j ≡ true → live (φ j) ≡ true
  pub fit : (i j : ℕ) → i < M → j < M → on i ≡ true → on j ≡ true → S i j → R (φ i) (φ j)
  pub unfit : (i j : ℕ) → i < M → j < M → on i ≡ true → on j ≡ true → R (φ i) (φ j) → S i j
  pub hit : (i : ℕ) → i < N → live i ≡ true → Partner (λ i j. R i (φ j)) on M i

pub carry_classes : {M N : ℕ} {S R : ℕ → ℕ → Type 0} {s r : ℕ → ℕ → Bool} {on live : ℕ → Bool} {φ : ℕ → ℕ} → Partition M S s → Partition N R r
    → Keeps M S on → Keeps N R live → Carry M N S R on live φ → classes s M on ≡ classes r N live
unfolding classes
carry_classes {M} {N} {S} {R} {s} {r} {on} {live} {φ} Q P L K C =
    reps_count P K (record {
      low = λ j h t. C.low j h (head_live s on j t);
      on = λ j h t. C.lives j h (head_live s on j t);
      hit = λ i h a.
          let q = C.hit i h a in
          let l = least_of Q q.to q.low in
          let m : on l.at ≡ true = L.keep q.to l.at q.low l.low l.meet q.pass in
          record {
            to = l.at;
            low = l.low;
            pass = head_says s on l.at m l.first;
            pair = P.join i (φ q.to) (φ l.at) h (C.low q.to q.low q.pass) (C.low l.at l.low m) q.pair
                (C.fit q.to l.at q.low l.low q.pass m l.meet);
          };
      one = λ i j h l t u e.
          least_one Q i j h l (head_least s on i t) (head_least s on j u) (C.unfit i j h l (head_live s on i t) (head_live s on j u) e);
    })

-- another live set: equal tests, or one in two exclusive parts
pub classes_same : (r : ℕ → ℕ → Bool) (N : ℕ) (live on : ℕ → Bool) → ((i : ℕ) → i < N → live i ≡ on i) → classes r N live ≡ classes r N on
unfolding classes head
classes_same r N live on e = count_same (head r live) (head r on) N (λ i h. rw (e i h))

pub classes_split : (r : ℕ → ℕ → Bool) (N : ℕ) (live a b : ℕ → Bool) → ((i : ℕ) → i < N → live i ≡ (a i || b i))
    → ((i : ℕ) → i < N → a i ≡ true → b i ≡ true → ⊥) → classes r N live ≡ classes r N a + classes r N b
unfolding classes head
classes_split r N live a b e apart =
    count_split (head r live) (head r a) (head r b) N (λ i h. rw (e i h) (and-or_distrib_right (a i) (b i) (least r i)))
    (λ i h s t. apart i h (head_live r a i s) (head_live r b i t))

pub classes_le : (r : ℕ → ℕ → Bool) (N : ℕ) (live : ℕ → Bool) → classes r N live ≤ count live N
unfolding classes
classes_le r N live = count_fewer (head r live) live N (λ i h. head_live r live i)

-- no live number, no class; a live number, a class; all live numbers in one class, one
pub classes_none : (r : ℕ → ℕ → Bool) (N : ℕ) (live : ℕ → Bool) → ((i : ℕ) → i < N → live i ≡ false) → classes r N live ≡ zero
unfolding classes
classes_none r N live out = count_none (head r live) N (λ i h. false_unless (head r live i) (λ t. clash (head_live r live i t) (out i h)))

pub classes_some : {N : ℕ} {R : ℕ → ℕ → Type 0} {r : ℕ → ℕ → Bool} {live : ℕ → Bool} → Partition N R r → Keeps N R live → {x : ℕ} → x < N → live x ≡ true
    → zero < classes r N live
unfolding classes
classes_some {N} {R} {r} {live} P K {x} h t =
    let l = least_of P x h in
    count_some (head r live) N l.at l.low (head_says r live l.at (K.keep x l.at h l.low l.meet t) l.first)

pub classes_one : {N : ℕ} {R : ℕ → ℕ → Type 0} {r : ℕ → ℕ → Bool} {live : ℕ → Bool} → Partition N R r → Keeps N R live → {x : ℕ} → x < N → live x ≡ true
    → ((i : ℕ) → i < N → live i ≡ true → R i x) → classes r N live ≡ 1
classes_one {live = live} P K {x} h t all =
    sym (reps_count {M = 1} {t = λ i. true} {live = live} {φ = λ i. x} P K (record {
      low = λ j l u. h;
      on = λ j l u. t;
      hit = λ i l u. record { to = zero; low = omega arith; pass = refl; pair = all i l u };
      one = λ i j l m u w q. omega arith;
    }))
    ∙ count_all (λ i. true) 1 (λ i l. refl)
