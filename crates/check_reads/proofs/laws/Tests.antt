-- Tests in a row: what is read by the time that one fails, or that all have passed.
--     Told                                                          a row of tests has been made, with its verdict and its count
--     told_all, told_fails, told_goes, told_end, told_is            the row ends, fails, goes on, is decided by its last test
--     told_differs, told_same, told_past, told_low                  a word that was read, tested against a number
--     told_in_fails, told_in_goes                                   a row in a row
--     total, reads_total, passed_total                              the words of all tests: at most these are read, all if all pass
--     true_case, truth_case, both_case, all_case                    Boolean cases of rows
--     below_stops                                                   a test for each number: none is made after one that fails
--     Going                                                         those below i have passed
--     going_none, going_more, going_stops                           it begins, goes on, ends with one that fails
--     rows_from, Along                                              the same with rows, from a number on
--     along_none, along_more, along_stops, along_all                it begins, goes on, ends
--     below_most, below_exact, below_until                          words read where each reads at most k, exactly k, at most one
--     below_passed, below_any                                       where a test that passes reads at most k, and another x more
use Prim.Native.Nat.{ℕ, zero, suc, ◌+◌, ◌-◌, ◌*◌, ◌≤◌, ◌<◌}
use native.Mathlib.Omega.{arith}
use Rattle.std.proofs.Math.Decide.{ℕ_discrete, dec_lt}
use Rattle.std.proofs.Common.{add-one, add-zero, sym, ◌∙◌, eq-eqb, ne_eqb, lt-ltb, le-ltb}
use Rattle.std.proofs.Math.Nat.{mul-suc}
use Rattle.std.specs.Prelude.{◌≡◌, refl, Bool, true, false, ◌&&◌, List, [], ◌∷◌, ◌≢◌, eqb, ltb}
use Rattle.std.proofs.Math.Path.{subst}
use Rattle.orbits.proofs.laws.Truth.{clash, both, both_left, both_right, truth, holds as yes_true, fails as yes-false}
use Rattle.table.specs.laws.Rotation.{Case, holds, fails, case_map, case_says, case_denies}
use Rattle.table.specs.Reading.{Adds}
use Rattle.table.specs.laws.Reading.{adds_none, adds_more}
use Rattle.check_reads.specs.Reads.{Test, test_of, together, reads_of, pass_all, all_below, reads_below}

-- a row of tests has been made: its verdict is r, and what keeps count went from n to m
pub record Told {C : Type 0} (S : C → ℕ → Type 0) (l : List Test) (r : Bool) (n m : C) : Type 0 where
  pub verdict : r ≡ pass_all l
  pub count : Adds S n m (reads_of l)

module _ {C : Type 0} {S : C → ℕ → Type 0} where
  -- the verdict that was seen
  pub told_is : {l : List Test} {r s : Bool} {n m : C} → r ≡ s → Told S l r n m → Told S l s n m
  told_is e k = record { verdict = sym e ∙ k.verdict; count = k.count }

  pub told_all : {n : C} → Told S [] true n n
  unfolding reads_of pass_all
  told_all = record { verdict = refl; count = adds_none }

  module _ {x : Test} {l : List Test} {n : C} where
    pub told_fails : {m : C} → Adds S n m x.reads → x.passes ≡ false → Told S (x ∷ l) false n m
    unfolding reads_of pass_all
    told_fails c e = record { verdict = rw e; count = rw (e, add-zero x.reads) c }

    pub told_goes : {r : Bool} {k m : C} → Adds S n k x.reads → x.passes ≡ true → Told S l r k m → Told S (x ∷ l) r n m
    unfolding reads_of pass_all
    told_goes c e k = record { verdict = rw e k.verdict; count = rw e (adds_more c k.count) }

  -- the last test of a row decides
  pub told_end : {x : Test} {r : Bool} {n m : C} → Adds S n m x.reads → r ≡ x.passes → Told S (x ∷ []) r n m
  told_end {x} c e = elim (truth x.passes) [
    | yes_true p ↦ rw (e ∙ p) (told_goes c p told_all)
    | yes-false p ↦ rw (e ∙ p) (told_fails c p)
  ]

  -- a word w that was read and counted, and tested against c
  module _ {x w c : ℕ} {k n : C} {l : List Test} (read : (w ≡ x) × Adds S n k 1) where
    pub told_differs : w ≢ c → Told S (test_of 1 (eqb x c) ∷ l) false n k
    told_differs h = told_fails read.1 (ne_eqb x c (rw read.0 at h))

    pub told_same : {r : Bool} {m : C} → w ≡ c → Told S l r k m → Told S (test_of 1 (eqb x c) ∷ l) r n m
    told_same h = told_goes read.1 (eq-eqb x c (sym read.0 ∙ h))

    pub told_past : c ≤ w → Told S (test_of 1 (ltb x c) ∷ l) false n k
    told_past h = told_fails read.1 (le-ltb x c (omega arith))

    pub told_low : {r : Bool} {m : C} → w < c → Told S l r k m → Told S (test_of 1 (ltb x c) ∷ l) r n m
    told_low h = told_goes read.1 (lt-ltb x c (omega arith))

  -- a row in a row
  pub told_in_fails : {k l : List Test} {n m : C} → Told S k false n m → Told S (together k ∷ l) false n m
  told_in_fails e = told_fails e.count (sym e.verdict)

  pub told_in_goes : {k l : List Test} {r : Bool} {n i m : C} → Told S k true n i → Told S l r i m → Told S (together k ∷ l) r n m
  told_in_goes e f = told_goes e.count (sym e.verdict) f

-- how many words they read at most
unfoldable pub total : List Test → ℕ
total [] = 0
total (x ∷ l) = x.reads + total l

pub reads_total : (l : List Test) → reads_of l ≤ total l
unfolding reads_of total
reads_total [] = omega arith
reads_total (x ∷ l) = let k = reads_total l in elim (truth x.passes) [
  | yes_true e ↦ rw e (omega arith)
  | yes-false e ↦ rw e (omega arith)
]

-- and how many if all pass
pub passed_total : (l : List Test) → pass_all l ≡ true → reads_of l ≡ total l
unfolding reads_of pass_all total
passed_total [] e = refl
passed_total (x ∷ l) e = let k = passed_total l (both_right x.passes _ e) in rw (both_left x.passes (pass_all l) e) (omega (arith, k))

pub true_case : Case true Unit
true_case = holds refl tt

pub truth_case : (b : Bool) → Case b (b ≡ true)
truth_case b = elim (truth b) [ yes_true e ↦ holds e e | yes-false e ↦ fails e (λ p. clash p e) ]

-- two Booleans that say whether P and Q hold
pub both_case : {a b : Bool} {P Q : Type 0} → Case a P → Case b Q → Case (a && b) (P × Q)
both_case (holds e p) (holds f q) = holds (both e f) (p, q)
both_case (holds e p) (fails f n) = fails (rw e f) (λ k. n k.1)
both_case (fails e n) c = fails (rw e) (λ k. n k.0)

pub all_case : {q : ℕ → Bool} {P : ℕ → Type 0} (n : ℕ) → ((i : ℕ) → i < n → Case (q i) (P i)) → Case (all_below q n) ((i : ℕ) → i < n → P i)
unfolding all_below
all_case zero c = holds refl (λ i h. absurd (omega arith))
all_case {P = P} (suc n) c = case_map
    (λ k i h. elim (ℕ_discrete i n) [
      | yes e ↦ rw e k.1
      | no e ↦ k.0 i (omega arith)
    ])
    (λ a. (λ i h. a i (omega arith), a n (omega arith)))
    (both_case (all_case n (λ i h. c i (omega arith))) (c n (omega arith)))

-- one fails, and none after it is made
module _ (f : ℕ → Test) {i : ℕ} (g : all_below (λ j. (f j).passes) i ≡ true) (e : (f i).passes ≡ false) where
  stopped : (k : ℕ) → i < k → (all_below (λ j. (f j).passes) k ≡ false) × (reads_below f k ≡ reads_below f i + (f i).reads)
  unfolding all_below reads_below
  stopped zero h = absurd (omega arith)
  stopped (suc k) h = elim (ℕ_discrete i k) [
    | yes q ↦ subst (λ j. (all_below (λ l. (f l).passes) (suc j) ≡ false) × (reads_below f (suc j) ≡ reads_below f i + (f i).reads)) q (rw (g, e) (refl, refl))
    | no q ↦ let s = stopped k (omega arith) in rw s.0 (refl, omega (arith, s.1))
  ]

  pub below_stops : (k : ℕ) → i < k → reads_below f k ≡ reads_below f i + (f i).reads
  below_stops k h = (stopped k h).1

-- the tests below i have passed, and what keeps count went from n to m
pub record Going {C : Type 0} (S : C → ℕ → Type 0) (f : ℕ → Test) (i : ℕ) (n m : C) : Type 0 where
  pub passed : all_below (λ k. (f k).passes) i ≡ true
  pub count : Adds S n m (reads_below f i)

-- a number of tests in a row, from a on: those of a, a + 1 and so on
abbrev pub rows_from : (ℕ → List Test) → ℕ → ℕ → Test
rows_from T a i = together (T (a + i))

-- The same with rows: those of a and on below e have passed.
pub record Along {C : Type 0} (S : C → ℕ → Type 0) (T : ℕ → List Test) (a e : ℕ) (n m : C) : Type 0 where
  pub from : a ≤ e
  pub going : Going S (rows_from T a) (e - a) n m

module _ {C : Type 0} {S : C → ℕ → Type 0} where
  pub going_none : {f : ℕ → Test} {n : C} → Going S f 0 n n
  unfolding all_below reads_below
  going_none = record { passed = refl; count = adds_none }

  -- one more is made
  module _ {f : ℕ → Test} {i : ℕ} {n m m' : C} (g : Going S f i n m) (q : Adds S m m' (f i).reads) where
    pub going_more : (f i).passes ≡ true → Going S f (i + 1) n m'
    unfolding all_below reads_below
    going_more e = record { passed = rw add-one (both g.passed e); count = rw (add-one i, g.passed) (adds_more g.count q) }

    -- and is the last
    pub going_stops : (f i).passes ≡ false → (k : ℕ) → i < k → Adds S n m' (reads_below f k)
    going_stops e k h = rw (below_stops f g.passed e k h) (adds_more g.count q)

  pub along_none : {T : ℕ → List Test} {a : ℕ} {n : C} → Along S T a a n n
  along_none {a = a} = let z : a - a ≡ 0 = omega arith in record { from = omega arith; going = rw z going_none }

  module _ {T : ℕ → List Test} {a e : ℕ} {n m m' : C} {r : Bool} (k : Along S T a e n m) (x : Told S (T e) r m m') where
    here : a + (e - a) ≡ e
    here = let h = k.from in omega arith

    pub along_more : r ≡ true → Along S T a (e + 1) n m'
    along_more y =
        let h = k.from in
        let q : e + 1 - a ≡ e - a + 1 = omega arith in
        record { from = omega arith; going = rw q (going_more k.going (rw here x.count) (rw here (sym x.verdict ∙ y))) }

    pub along_stops : (c : ℕ) → e < a + c → r ≡ false → Adds S n m' (reads_below (rows_from T a) c)
    along_stops c h y =
        let l = k.from in
        going_stops k.going (rw here x.count) (rw here (sym x.verdict ∙ y)) c (omega arith)

  pub along_all : {T : ℕ → List Test} {a e : ℕ} {n m : C} (c : ℕ) → Along S T a e n m → e ≡ a + c → Adds S n m (reads_below (rows_from T a) c)
  along_all {a = a} {e = e} c k q = let z : e - a ≡ c = omega arith in rw z at k.going.count

-- where each reads at most k words
pub below_most : (f : ℕ → Test) (k n : ℕ) → ((i : ℕ) → i < n → (f i).reads ≤ k) → reads_below f n ≤ k * n
unfolding reads_below
below_most f k zero a = omega arith
below_most f k (suc n) a =
    let s = below_most f k n (λ i h. a i (omega arith)) in
    let l = a n (omega arith) in
    elim (truth (all_below (λ i. (f i).passes) n)) [
      | yes_true e ↦ rw (e, mul-suc k n) (omega arith)
      | yes-false e ↦ rw (e, mul-suc k n) (omega arith)
    ]

pub below_exact : (f : ℕ → Test) (k n : ℕ) → ((i : ℕ) → i < n → (f i).passes ≡ true) → ((i : ℕ) → i < n → (f i).reads ≡ k) → reads_below f n ≡ k * n
unfolding reads_below
below_exact f k zero p a = omega arith
below_exact f k (suc n) p a =
    let s = below_exact f k n (λ i h. p i (omega arith)) (λ i h. a i (omega arith)) in
    let l = a n (omega arith) in
    let all = case_says (all_case {P = λ i. (f i).passes ≡ true} n (λ i h. truth_case (f i).passes)) (λ i h. p i (omega arith)) in
    rw (all, mul-suc k n) (omega (arith, s, l))

-- one that fails is the last
pub below_until : (f : ℕ → Test) (i n : ℕ) → ((k : ℕ) → (f k).reads ≤ 1) → (f i).passes ≡ false → reads_below f n ≤ suc i
unfolding reads_below all_below
below_until f i zero one e = omega arith
below_until f i (suc n) one e = elim (dec_lt i n) [
  | yes h ↦ let s = below_until f i n one e in rw (case_denies (all_case {P = λ k. (f k).passes ≡ true} n (λ k l. truth_case (f k).passes)) (λ a. clash (a i h) e)) (omega arith)
  | no h ↦ let s = below_most f 1 (suc n) (λ k l. one k) in omega arith
]

-- where each that passes reads at most k words, and another at most x more
module _ (f : ℕ → Test) (k x : ℕ) (few : (i : ℕ) → (f i).passes ≡ true → (f i).reads ≤ k) (most : (i : ℕ) → (f i).reads ≤ k + x) where
  pub below_passed : (n : ℕ) → all_below (λ i. (f i).passes) n ≡ true → reads_below f n ≤ k * n
  unfolding all_below reads_below
  below_passed zero e = omega arith
  below_passed (suc n) e =
      let a = both_left _ (f n).passes e in
      let s = below_passed n a in
      let l = few n (both_right (all_below (λ i. (f i).passes) n) _ e) in
      rw (a, mul-suc k n) (omega arith)

  pub below_any : (n : ℕ) → reads_below f n ≤ k * n + x
  unfolding reads_below
  below_any zero = omega arith
  below_any (suc n) = elim (truth (all_below (λ i. (f i).passes) n)) [
    | yes_true e ↦ let s = below_passed n e in let l = most n in rw (e, mul-suc k n) (omega arith)
    | yes-false e ↦ let s = below_any n in rw (e, mul-suc k n) (omega arith)
  ]
