-- How many numbers below n pass a test.
--     count_same, count_one                             equal tests; tests that differ at one number only
--     count_none, count_all                             no number passes; each does
--     count_le, none_counted, count_some, count_find    the ways back
--     PassesAt                                          a number below n that passes
--     without, without_at, without_other, without_on    a test with one number taken out
--     count_without                                     one fewer passes it
--     count_split, count_part, count_sum                a test in two exclusive parts; a range in two pieces
--     count_short, count_fewer                          nothing past n passes; a test that implies another
--     count_into                                        an injective relation from one counted set into another: the first has no more members
--     count_onto                                        the same both ways: as many
use Rattle.std.specs.Prelude.{◌≡◌, refl, ◌≢◌, Bool, true, false, not, ◌&&◌, ◌||◌, ℕ, zero, suc, ◌+◌, ◌<◌, ◌≤◌, eqb}
use Rattle.std.proofs.Common.{sym, ◌∙◌, add-zero, add-suc, le_antisymm, arith, eq-eqb, ne_eqb}
use Rattle.std.proofs.Math.Bool.{and-true, and-false, Bool-discrete}
use Rattle.std.proofs.Math.Nat.{le_dest}
use Rattle.std.proofs.Math.Decide.{ℕ_discrete}
use Rattle.orbits.proofs.laws.Truth.{truth, holds, fails, clash, both_left, false_unless, First, first, found, none}
use Rattle.orbits.specs.Count.{more_if, count, Partner}

pub count_same : (p q : ℕ → Bool) (n : ℕ) → ((i : ℕ) → i < n → p i ≡ q i) → count p n ≡ count q n
unfolding count
count_same p q zero e = refl
count_same p q (suc n) e = rw (e n (omega arith), count_same p q n (λ i h. e i (omega arith)))

pub count_one : (p q : ℕ → Bool) (a n : ℕ) → a < n → p a ≡ true → q a ≡ false → ((i : ℕ) → i < n → i ≢ a → p i ≡ q i) → count p n ≡ suc (count q n)
unfolding count
count_one p q a zero h t f e = absurd (lt_zero h)
  where
    lt_zero : a < zero → ⊥
    lt_zero h = omega arith
count_one p q a (suc n) h t f e = elim (ℕ_discrete a n) [
  | yes s ↦
      let here : p n ≡ true = rw s at t in
      let gone : q n ≡ false = rw s at f in
      let rest : count p n ≡ count q n = count_same p q n (λ i l. e i (omega arith) (omega arith)) in
      rw (here, gone, rest)
  | no s ↦
      let same : p n ≡ q n = e n (omega arith) (λ r. s (sym r)) in
      let rest : count p n ≡ suc (count q n) = count_one p q a n (omega arith) t f (λ i l. e i (omega arith)) in
      rw (same, rest) (past (q n) (count q n))
]
  where
    past : (b : Bool) (k : ℕ) → more_if b (suc k) ≡ suc (more_if b k)
    past true k = refl
    past false k = refl

pub count_none : (p : ℕ → Bool) (n : ℕ) → ((i : ℕ) → i < n → p i ≡ false) → count p n ≡ zero
unfolding count
count_none p zero h = refl
count_none p (suc n) h = rw (h n (omega arith), count_none p n (λ i l. h i (omega arith)))

pub count_all : (p : ℕ → Bool) (n : ℕ) → ((i : ℕ) → i < n → p i ≡ true) → count p n ≡ n
unfolding count
count_all p zero h = refl
count_all p (suc n) h = rw (h n (omega arith), count_all p n (λ i l. h i (omega arith)))

pub count_le : (p : ℕ → Bool) (n : ℕ) → count p n ≤ n
unfolding count
count_le p zero = omega arith
count_le p (suc n) = at (p n) (count_le p n)
  where
    at : (b : Bool) {k : ℕ} → k ≤ n → more_if b k ≤ suc n
    at true h = omega arith
    at false h = omega arith

-- a test with one number taken out
unfoldable pub without : (ℕ → Bool) → ℕ → ℕ → Bool
without p a i = p i && not (eqb i a)

pub without_at : (p : ℕ → Bool) (a : ℕ) → without p a a ≡ false
unfolding without
without_at p a = rw (eq-eqb a a refl) (and-false (p a))

pub without_other : (p : ℕ → Bool) (a i : ℕ) → i ≢ a → without p a i ≡ p i
unfolding without
without_other p a i h = rw (ne_eqb i a h) (and-true (p i))

pub without_on : (p : ℕ → Bool) (a i : ℕ) → without p a i ≡ true → p i ≡ true
unfolding without
without_on p a i t = both_left (p i) (not (eqb i a)) t

pub count_without : (p : ℕ → Bool) (a n : ℕ) → a < n → p a ≡ true → count p n ≡ suc (count (without p a) n)
count_without p a n h t = count_one p (without p a) a n h t (without_at p a) (λ i l d. sym (without_other p a i d))

pub none_counted : (p : ℕ → Bool) (n : ℕ) → count p n ≡ zero → (i : ℕ) → i < n → p i ≡ false
none_counted p n z i h =
    false_unless (p i) (λ t.
    let one = count_without p i n h t in
    omega arith)

pub count_some : (p : ℕ → Bool) (n i : ℕ) → i < n → p i ≡ true → zero < count p n
count_some p n i h t =
    let one = count_without p i n h t in
    omega arith

-- a number below n that passes
pub record PassesAt (p : ℕ → Bool) (n : ℕ) : Type 0 where
  pub at : ℕ
  pub low : at < n
  pub pass : p at ≡ true

pub count_find : (p : ℕ → Bool) (n : ℕ) → zero < count p n → PassesAt p n
count_find p n h = found_in (first (λ i. p i ≡ true) (λ i. Bool-discrete (p i) true) n)
  where
    positive : count p n ≡ zero → ⊥
    positive z = omega arith

    found_in : First (λ i. p i ≡ true) n → PassesAt p n
    found_in (found k l t least) = record { at = k; low = l; pass = t }
    found_in (none out) = absurd (positive (count_none p n (λ i l. false_unless (p i) (out i l))))

pub count_split : (p q r : ℕ → Bool) (n : ℕ) → ((i : ℕ) → i < n → p i ≡ (q i || r i)) → ((i : ℕ) → i < n → q i ≡ true → r i ≡ true → ⊥)
    → count p n ≡ count q n + count r n
unfolding count
count_split p q r zero e apart = refl
count_split p q r (suc n) e apart =
    rw (e n (omega arith), count_split p q r n (λ i h. e i (omega arith)) (λ i h. apart i (omega arith)))
    (add (q n) (r n) (count q n) (count r n) (apart n (omega arith)))
  where
    add : (a b : Bool) (k l : ℕ) → (a ≡ true → b ≡ true → ⊥) → more_if (a || b) (k + l) ≡ more_if a k + more_if b l
    add true true k l h = absurd (h refl refl)
    add true false k l h = omega arith
    add false true k l h = omega arith
    add false false k l h = refl

-- the two parts that a second test makes of a first
pub count_part : (p q : ℕ → Bool) (n : ℕ) → count p n ≡ count (λ i. p i && q i) n + count (λ i. p i && not (q i)) n
count_part p q n = count_split p (λ i. p i && q i) (λ i. p i && not (q i)) n (λ i h. parts (p i) (q i)) (λ i h. apart (p i) (q i))
  where
    parts : (a b : Bool) → a ≡ (a && b || a && not b)
    parts true true = refl
    parts true false = refl
    parts false true = refl
    parts false false = refl

    apart : (a b : Bool) → (a && b) ≡ true → (a && not b) ≡ true → ⊥
    apart true true s t = clash t refl
    apart true false s t = clash s refl
    apart false true s t = clash s refl
    apart false false s t = clash s refl

pub count_sum : (p : ℕ → Bool) (a b : ℕ) → count p (a + b) ≡ count p a + count (λ i. p (a + i)) b
unfolding count
count_sum p a zero = simp add-zero
count_sum p a (suc b) = rw (add-suc a b, count_sum p a b) (over (p (a + b)) (count p a) (count (λ i. p (a + i)) b))
  where
    over : (t : Bool) (k l : ℕ) → more_if t (k + l) ≡ k + more_if t l
    over true k l = omega arith
    over false k l = refl

pub count_short : (p : ℕ → Bool) (n m : ℕ) → n ≤ m → ((i : ℕ) → n ≤ i → i < m → p i ≡ false) → count p m ≡ count p n
count_short p n m h out =
    let d = le_dest h in
    let rest : count (λ i. p (n + i)) d.0 ≡ zero = count_none (λ i. p (n + i)) d.0 (λ i l. out (n + i) (omega arith) (omega arith)) in
    let whole = count_sum p n d.0 in
    rw (← d.1) (omega arith)

-- partners of the others are left when one is taken out
partners_left : (G : ℕ → ℕ → Type 0) (p q : ℕ → Bool) (n m a : ℕ) → ((i : ℕ) → i < n → p i ≡ true → Partner G q m i)
    → ((i : ℕ) → i < n → p i ≡ true → ¬ G i a) → (i : ℕ) → i < n → p i ≡ true → Partner G (without q a) m i
partners_left G p q n m a total apart i h t =
    let mine = total i h t in
    let other : mine.to ≢ a = λ e. apart i h t (rw e at mine.pair) in
    record { to = mine.to; low = mine.low; pass = without_other q a mine.to other ∙ mine.pass; pair = mine.pair }

pub count_into : (G : ℕ → ℕ → Type 0) (p q : ℕ → Bool) (n m : ℕ)
    → ((i : ℕ) → i < n → p i ≡ true → Partner G q m i)
    → ((i j k : ℕ) → i < n → j < n → k < m → p i ≡ true → p j ≡ true → q k ≡ true → G i k → G j k → i ≡ j)
    → count p n ≤ count q m
unfolding count
count_into G p q zero m total inj = omega arith
count_into G p q (suc n) m total inj = elim (truth (p n)) [
  | fails f ↦ rw f (count_into G p q n m (λ i h. total i (omega arith)) (λ i j k h l. inj i j k (omega arith) (omega arith)))
  | holds t ↦
      let last = total n (omega arith) t in
      let one = count_without q last.to m last.low last.pass in
      let rest = count_into G p (without q last.to) n m (left t last) (λ i j k h l b s u w. inj i j k (omega arith) (omega arith) b s u (without_on q last.to k w)) in
      rw (t, one) (omega arith)
]
  where
    left : p n ≡ true → (last : Partner G q m n) (i : ℕ) → i < n → p i ≡ true → Partner G (without q last.to) m i
    left t last = partners_left G p q n m last.to (λ i h. total i (omega arith)) (λ i h s g.
        let same : i ≡ n = inj i n last.to (omega arith) (omega arith) last.low s t last.pass g last.pair in
        omega arith)

-- a test that implies another
pub count_fewer : (p q : ℕ → Bool) (n : ℕ) → ((i : ℕ) → i < n → p i ≡ true → q i ≡ true) → count p n ≤ count q n
count_fewer p q n h =
    count_into (λ i j. i ≡ j) p q n n (λ i l t. record { to = i; low = l; pass = h i l t; pair = refl }) (λ i j k l m b s t w e f. e ∙ sym f)

pub count_onto : (G : ℕ → ℕ → Type 0) (p q : ℕ → Bool) (n m : ℕ)
    → ((i : ℕ) → i < n → p i ≡ true → Partner G q m i)
    → ((j : ℕ) → j < m → q j ≡ true → Partner (λ j i. G i j) p n j)
    → ((i j k : ℕ) → i < n → j < n → k < m → p i ≡ true → p j ≡ true → q k ≡ true → G i k → G j k → i ≡ j)
    → ((i j k : ℕ) → i < m → j < m → k < n → q i ≡ true → q j ≡ true → p k ≡ true → G k i → G k j → i ≡ j)
    → count p n ≡ count q m
count_onto G p q n m total onto inj single = le_antisymm (count_into G p q n m total inj) (count_into (λ j i. G i j) q p m n onto single)
