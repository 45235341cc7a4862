-- A tally brought forward by one step, document 01, "Corners and walks", and when the step is declined: 6.
--     past_steps, past_overs, past_unders, past_length    6, for each field that would pass 32 bits
--     brought                                             the tally brought forward
--     bit_most, lap_most                                  the lap, as the code has it, is at most 320
--     tally_forward, brought_is                           what the code adds is the step's tally
use Rattle.std.specs.Prelude.{ℕ, ◌+◌, ◌-◌, ◌*◌, ◌%◌, ◌<◌, ◌≤◌, ◌≡◌, refl, Bool, true, false, List, Ok, Err}
use Rattle.std.proofs.Common.{arith, ◌∙◌}
use borrow.Author.Tests.{lt-ltb, le-ltb}
use Rattle.orbits.proofs.laws.Truth.{truth, holds, fails}
use Rattle.table.specs.declared.answer.Refusal.{Refusal}
use Rattle.table.specs.declared.answer.Refusal.TheVariants.{Overturned}
use Rattle.tracing.specs.Met.{times}
use Rattle.tracing.specs.Listing.{bit}
use Rattle.weave.specs.Letters.{over, crossings, letters_on, step_letters}
use Rattle.weave_letters.specs.laws.Crossing.{EdgeWord}
use Rattle.weave_letters.specs.laws.Counts.{unders_left}
use Rattle.lengths.specs.CutLength.{length_of, lap}
use Rattle.reader_tally.specs.declared.tally.Tally.{Tally}
use Rattle.reader_tally.specs.Forward.{forward, past32, fits32, forward_of, lap_at, step_tally, tally_of, Tallied}

-- the ends of the bringing forward

module _ (y : Tally) (o u l : ℕ) where
  pub past_steps : 4294967295 ≤ y.steps → Err Overturned ≡ forward_of y o u l
  unfolding forward_of
  past_steps h = rw (le-ltb (y.steps + 1) past32 (omega arith))

  module _ (fits : y.steps < 4294967295) where
    pub past_overs : 4294967295 - y.overs < o → Err Overturned ≡ forward_of y o u l
    unfolding forward_of
    past_overs h = rw (lt-ltb (y.steps + 1) past32 (omega arith), le-ltb (y.overs + o) past32 (omega arith))

    pub past_unders : y.overs + o ≤ 4294967295 → 4294967295 - y.unders < u → Err Overturned ≡ forward_of y o u l
    unfolding forward_of
    past_unders g h = rw (lt-ltb (y.steps + 1) past32 (omega arith), lt-ltb (y.overs + o) past32 (omega arith), le-ltb (y.unders + u) past32 (omega arith))

    module _ (overs : y.overs + o ≤ 4294967295) (unders : y.unders + u ≤ 4294967295) where
      pub past_length : 4294967295 - y.length < l → Err Overturned ≡ forward_of y o u l
      unfolding forward_of
      past_length h =
          let few = lt-ltb (y.steps + 1) past32 (omega arith) in
          rw (few, lt-ltb (y.overs + o) past32 (omega arith), lt-ltb (y.unders + u) past32 (omega arith), le-ltb (y.length + l) past32 (omega arith))

      pub brought : y.length + l ≤ 4294967295 → Ok (forward y o u l) ≡ forward_of y o u l
      unfolding forward_of
      brought h =
          let few = lt-ltb (y.steps + 1) past32 (omega arith) in
          rw (few, lt-ltb (y.overs + o) past32 (omega arith), lt-ltb (y.unders + u) past32 (omega arith), lt-ltb (y.length + l) past32 (omega arith))

-- the lap, as the code has it
lap_bit : (last : Bool) → 320 * bit last ≡ lap_at last
lap_bit true = refl
lap_bit false = refl

pub bit_most : (b : Bool) → bit b ≤ 1
bit_most true = omega arith
bit_most false = omega arith

pub lap_most : (last : Bool) → lap_at last ≤ lap
lap_most true = omega arith
lap_most false = omega arith

-- a step's tally
pub tally_forward : (t : List ℕ) (s : ℕ) (last : Bool) (y : Tally) {l w n o : ℕ} {r : Tallied} → l ≡ length_of t s → EdgeWord t s w → n ≡ crossings w
    → o ≡ times over (letters_on w (s % 2)) → r ≡ forward_of y o (n - o) (l + 8 * o + 320 * bit last) → r ≡ tally_of t s last y
unfolding tally_of forward_of step_letters
tally_forward t s last y {l} {w} {n} {o} h e c f g =
    let u = (unders_left w (s % 2) c f (omega arith)).1 in
    g ∙ rw (lap_bit last, u, f, h, e.word)

-- a step is declined for its tally with 6 alone
pub kept_is : (t : List ℕ) (s : ℕ) (last : Bool) (y : Tally) {r : Refusal} → Err r ≡ tally_of t s last y → r ≡ Overturned
unfolding tally_of forward_of
kept_is t s last y {r} e = elim (truth (fits32 (step_tally t s last y))) [
  | fails c ↦ let same : Err r ≡ Err Overturned = rw c at e in cc
  | holds c ↦ let other : ◌≡◌ {A = Tallied} (Err r) (Ok (step_tally t s last y)) = rw c at e in let z : ◌≡◌ {A = ℕ} 0 1 = cc in absurd (let no : ⊥ = omega arith in no)
]

-- the tally that a step has brought forward
pub brought_is : (t : List ℕ) (s : ℕ) (last : Bool) (y : Tally) {z : Tally} → Ok z ≡ tally_of t s last y → z ≡ step_tally t s last y
unfolding tally_of forward_of
brought_is t s last y {z} e = elim (truth (fits32 (step_tally t s last y))) [
  | fails c ↦ absurd (other (rw c at e))
  | holds c ↦ let same : ◌≡◌ {A = Tallied} (Ok z) (Ok (step_tally t s last y)) = rw c at e in cc
]
  where
    other : {r : Refusal} → ◌≡◌ {A = Tallied} (Ok z) (Err r) → ⊥
    other f = let z : ◌≡◌ {A = ℕ} 0 1 = cc in omega arith
