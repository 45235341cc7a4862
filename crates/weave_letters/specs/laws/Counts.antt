-- How many of a step's letters are O and U: every other one.
--     overs_positive, overs_negative    how many letters of a step are O, by hand, type and crossings
--     overs_both                        each crossing is O from one of the two types on
--     unders_left                       the letters that are not O are U
--     crossings_most                    the crossings of a 16-bit edge word
--     letters_few                       a step has at most 99 letters of either kind
--     overs_step                        the O's counted by the edge word are those of the step
--     overs_back                        as many O's on the way back along an edge
--     Halves, halves                    n crossings from either type, of either hand: half of them O
use Rattle.std.specs.Prelude.{ℕ, zero, suc, ◌+◌, ◌-◌, ◌/◌, ◌%◌, ◌<◌, ◌≤◌, ◌≡◌, refl, Bool, true, false, List}
use Rattle.std.proofs.Common.{arith, sym, lt-ltb, le-ltb}
use Rattle.tracing.specs.Met.{times, count_in}
use Rattle.tracing.proofs.laws.Step.{type_of_lem, type?, is_zero, is_one}
use Rattle.tracing_walks.specs.laws.Stands.{Stands}
use Rattle.weave.specs.Letters.{over, under, unturned, positive, crossings, letter, crossed, letters_on, word_of, step_letters}
use Rattle.weave.proofs.laws.Ribbon.{crossings_parity}
use Rattle.weave_letters.specs.laws.Crossing.{EdgeWord, edge_read, crossings_few}

-- "the strand goes over (O) .., else under (U)": each crossing has one of the two letters
times_both : (h : Bool) (n : ℕ) → (times over (crossed h 0 n) + times under (crossed h 0 n) ≡ n) × (times over (crossed h 1 n) + times under (crossed h 1 n) ≡ n)
unfolding count_in crossed letter
times_both h zero = (refl, refl)
times_both true (suc n) = let r = times_both true n in let a = r.0 in let b = r.1 in (omega arith, omega arith)
times_both false (suc n) = let r = times_both false n in let a = r.0 in let b = r.1 in (omega arith, omega arith)

-- n crossings of either hand from type 0 and from type 1 on: every other letter is O
record Halves (n : ℕ) : Type 0 where
  positive_zero_lem : times over (crossed true 0 n) ≡ (n + 1) / 2
  positive_one : times over (crossed true 1 n) ≡ n / 2
  negative_zero : times over (crossed false 0 n) ≡ n / 2
  negative_one : times over (crossed false 1 n) ≡ (n + 1) / 2

halves : (n : ℕ) → Halves n
unfolding count_in crossed letter
halves zero = record { positive_zero_lem = refl; positive_one = refl; negative_zero = refl; negative_one = refl }
halves (suc n) =
    let r = halves n in
    let a = r.positive_zero_lem in
    let b = r.positive_one in
    let c = r.negative_zero in
    let d = r.negative_one in
    record { positive_zero_lem = omega arith; positive_one = omega arith; negative_zero = omega arith; negative_one = omega arith }

-- the crossings of an edge word of 16 bits
pub crossings_most : {w n : ℕ} → w < 65536 → n ≡ crossings w → n ≤ 65435
unfolding crossings
crossings_most h e = omega arith

module _ {w n kind : ℕ} (e : n ≡ crossings w) (h : kind < 2) where
  pub overs_positive : unturned < w → (n + 1 - kind) / 2 ≡ times over (letters_on w kind)
  unfolding letters_on
  overs_positive l = rw (lt-ltb unturned w l, ← e) (elim (type_of_lem kind h) [
    | is_zero z ↦ rw z (let r = (halves n).positive_zero_lem in omega arith)
    | is_one z ↦ rw z (let r = (halves n).positive_one in omega arith)
  ])

  pub overs_negative : w ≤ unturned → (n + kind) / 2 ≡ times over (letters_on w kind)
  unfolding letters_on
  overs_negative l = rw (le-ltb unturned w l, ← e) (elim (type_of_lem kind h) [
    | is_zero z ↦ rw z (let r = (halves n).negative_zero in omega arith)
    | is_one z ↦ rw z (let r = (halves n).negative_one in omega arith)
  ])

-- an edge's crossings are O from one of the two types on
pub overs_both : (w : ℕ) → times over (letters_on w 0) + times over (letters_on w 1) ≡ crossings w
unfolding letters_on
overs_both w = by (positive w) (crossings w)
  where
    by : (h : Bool) (n : ℕ) → times over (crossed h 0 n) + times over (crossed h 1 n) ≡ n
    by true n = let r = halves n in let a = r.positive_zero_lem in let b = r.positive_one in omega arith
    by false n = let r = halves n in let a = r.negative_zero in let b = r.negative_one in omega arith

-- the letters that are not O are U
pub unders_left : (w kind : ℕ) {n o : ℕ} → n ≡ crossings w → o ≡ times over (letters_on w kind) → kind < 2 → (o ≤ n) × (n - o ≡ times under (letters_on w kind))
unfolding letters_on
unders_left w kind e f h = let both = by in (omega arith, omega arith)
  where
    by : times over (crossed (positive w) kind (crossings w)) + times under (crossed (positive w) kind (crossings w)) ≡ crossings w
    by = elim (type_of_lem kind h) [
      | is_zero z ↦ rw z (times_both (positive w) (crossings w)).0
      | is_one z ↦ rw z (times_both (positive w) (crossings w)).1
    ]

-- a step has at most 99 letters
pub letters_few : {t : List ℕ} {s : ℕ} → Stands t s → (times over (step_letters t s) ≤ 99) × (times under (step_letters t s) ≤ 99)
unfolding step_letters
letters_few {t} {s} h =
    let e = edge_read h in
    let most = crossings_few e.some e.most in
    let u = unders_left (word_of t s) (s % 2) refl refl (omega arith) in
    let few = u.0 in
    let rest = u.1 in
    (omega arith, omega arith)

-- the O's that are counted by the word of the step's edge are those of the step
pub overs_step : {t : List ℕ} {s w o : ℕ} → EdgeWord t s w → o ≡ times over (letters_on w (s % 2)) → o ≡ times over (step_letters t s)
unfolding step_letters
overs_step e f = rw (← e.word) f

-- over stays over when an edge is travelled back

-- an even number of crossings has as many O's from either type on
overs_even : (hand : Bool) (n : ℕ) → n % 2 ≡ 0 → times over (crossed hand 0 n) ≡ times over (crossed hand 1 n)
overs_even true n e = let h = halves n in let zero = h.positive_zero_lem in let one = h.positive_one in omega arith
overs_even false n e = let h = halves n in let zero = h.negative_zero in let one = h.negative_one in omega arith

-- the way back begins with the other type than that which the step came to
pub overs_back : (w s : ℕ) → times over (letters_on w (1 - (s + w) % 2)) ≡ times over (letters_on w (s % 2))
unfolding letters_on
overs_back w s =
    let parity = crossings_parity w 0 in
    elim (type? (crossings w)) [
      | is_zero even ↦ elim (type? s) [
        | is_zero e ↦ let from : 1 - (s + w) % 2 ≡ 1 = omega arith in rw (from, e) (sym (overs_even (positive w) (crossings w) even))
        | is_one e ↦ let from : 1 - (s + w) % 2 ≡ 0 = omega arith in rw (from, e) (overs_even (positive w) (crossings w) even)
      ]
      | is_one odd ↦ let from : 1 - (s + w) % 2 ≡ s % 2 = omega arith in rw from
    ]
