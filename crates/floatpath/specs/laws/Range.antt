-- Numbers within a range either way: the tests that the code makes.
--     bound_fits, bound_is                     the bound below zero
--     past_yes, past_else                      the test of one number
--     Answered                                 what the test of a lent word answered
--     far_first, far_second, far_last          the test of three words, one after the other
--     first_there, second_there, lift_there    the words of a step's ends and its lift are there
--     step_first, step_second, step_last       the test of a step
use Rattle.std.specs.Prelude.{ℕ, zero, suc, ◌+◌, ◌≤◌, ◌<◌, ◌^◌, ◌≡◌, refl, Bool, true, false, ◌||◌, List, length, ℤ, pos, negsuc, neg_ℤ, ◌-ℤ◌}
use Rattle.std.proofs.Common.{arith, sym, ◌∙◌, ap₂, SFits, to_z, of_z, to_z-of_z, lt-ltb, le-ltb, ltb-true, ltb-false}
use Rattle.std.proofs.Math.Path.{ap}
use Rattle.std.proofs.Math.IntN.{+ℤ_idl}
use Rattle.std.specs.Int.Signed.{lt_z, mag}
use Rattle.std.specs.Int.{w32}
use Rattle.std.proofs.Math.Facts.{to_z_pos}
use Rattle.orbits.proofs.laws.Truth.{clash}
use Rattle.floatpath_pieces.specs.declared.place.Places.{Places}
use Rattle.floatpath_pieces.specs.Path.{farthest_point, farthest_lift, sixteenths, first_end, second_end, lift_at, past, far_three, far_step}
use Rattle.floatpath_pieces.specs.laws.Places.{places_of, Lent, lies}

-- the bound below zero, as the code has it
module _ (m : ℕ) (h : m ≤ farthest_point) where
  low_is : to_z w32 0 -ℤ to_z w32 m ≡ neg_ℤ (pos m)
  low_is = ap₂ ◌-ℤ◌ (to_z_pos w32 {n = 0} (omega arith)) (to_z_pos w32 {n = m} (omega arith)) ∙ +ℤ_idl (neg_ℤ (pos m))

  low_fits : (k : ℕ) → k ≤ farthest_point → SFits w32 (neg_ℤ (pos k))
  low_fits zero l = record { sfits = omega arith }
  low_fits (suc k) l = record { sfits = omega arith }

  pub bound_fits : SFits w32 (to_z w32 0 -ℤ to_z w32 m)
  bound_fits = rw low_is (low_fits m h)

  pub bound_is : to_z w32 (of_z w32 (to_z w32 0 -ℤ to_z w32 m)) ≡ neg_ℤ (pos m)
  bound_is = to_z-of_z {w = w32} bound_fits ∙ low_is

past_low : (m : ℕ) (z : ℤ) → lt_z z (neg_ℤ (pos m)) ≡ true → true ≡ past m z
past_low zero (pos n) e = let h = ltb-true n 0 e in absurd (omega arith)
past_low (suc m) (pos n) e = absurd (clash e refl)
past_low zero (negsuc n) e = sym (lt-ltb 0 (suc n) (omega arith))
past_low (suc m) (negsuc n) e = let h = ltb-true m n e in sym (lt-ltb (suc m) (suc n) (omega arith))

past_rest : (m : ℕ) (z : ℤ) → lt_z z (neg_ℤ (pos m)) ≡ false → lt_z (pos m) z ≡ past m z
past_rest m (pos n) e = refl
past_rest zero (negsuc n) e = absurd (clash refl e)
past_rest (suc m) (negsuc n) e = let h = ltb-false m n e in sym (le-ltb (suc m) (suc n) (omega arith))

-- the two ends of the test, of a number as the machine has it
module _ (z : ℤ) (f : SFits w32 z) (m : ℕ) (h : m ≤ farthest_point) where
  pub past_yes : lt_z (to_z w32 (of_z w32 z)) (to_z w32 (of_z w32 (to_z w32 0 -ℤ to_z w32 m))) ≡ true → true ≡ past m z
  past_yes e = past_low m z (sym (ap₂ lt_z (to_z-of_z {w = w32} f) (bound_is m h)) ∙ e)

  pub past_else : lt_z (to_z w32 (of_z w32 z)) (to_z w32 (of_z w32 (to_z w32 0 -ℤ to_z w32 m))) ≡ false → lt_z (to_z w32 m) (to_z w32 (of_z w32 z)) ≡ past m z
  past_else e =
      ap₂ lt_z (to_z_pos w32 {n = m} (omega arith)) (to_z-of_z {w = w32} f)
      ∙ past_rest m z (sym (ap₂ lt_z (to_z-of_z {w = w32} f) (bound_is m h)) ∙ e)

-- three tests, made one after the other
module _ (a b d : Bool) where
  any_first : {x : Bool} → x ≡ a → x ≡ true → true ≡ (a || (b || d))
  any_first e h = sym (rw (← e, h))

  any_second : {x y : Bool} → x ≡ a → x ≡ false → y ≡ b → y ≡ true → true ≡ (a || (b || d))
  any_second e h f k = sym (rw (← e, h, ← f, k))

  any_last : {x y z : Bool} → x ≡ a → x ≡ false → y ≡ b → y ≡ false → z ≡ d → z ≡ (a || (b || d))
  any_last e h f k g = g ∙ sym (rw (← e, h, ← f, k))

-- what the test of a lent word answered, which is handed on as the machine has it
pub record Answered (words : List ℤ) (i most : ℕ) (b : Bool) : Type 0 where
  pub word : mag (sixteenths words i) < 2 ^ 31
  pub said : b ≡ past most (to_z w32 (of_z w32 (sixteenths words i)))

answered : {words : List ℤ} {i most : ℕ} {b : Bool} → Answered words i most b → b ≡ past most (sixteenths words i)
answered {words} {i} {most} k = k.said ∙ ap (past most) (to_z-of_z {w = w32} {z = sixteenths words i} (record { sfits = k.word }))

-- the three words of a point or a lift
module _ {words : List ℤ} {i most : ℕ} {x : Bool} (k : Answered words i most x) where
  pub far_first : x ≡ true → true ≡ far_three words i most
  unfolding far_three
  far_first h = any_first (past most (sixteenths words i)) (past most (sixteenths words (i + 1))) (past most (sixteenths words (i + 2))) (answered k) h

  module _ (h : x ≡ false) {y : Bool} (l : Answered words (i + 1) most y) where
    pub far_second : y ≡ true → true ≡ far_three words i most
    unfolding far_three
    far_second g = any_second (past most (sixteenths words i)) (past most (sixteenths words (i + 1))) (past most (sixteenths words (i + 2))) (answered k) h (answered l) g

    pub far_last : y ≡ false → {z : Bool} → Answered words (i + 2) most z → z ≡ far_three words i most
    unfolding far_three
    far_last g m = any_last (past most (sixteenths words i)) (past most (sixteenths words (i + 1))) (past most (sixteenths words (i + 2))) (answered k) h (answered l) g (answered m)

-- the two ends of a step's edge and its lift
module _ {t : List ℕ} {points lifts : List ℤ} {s : ℕ} {p : Places} (k : Lent t points lifts s) (e : p ≡ places_of t s) where
  pub first_there : (p.first + 2 < length points) × (farthest_point ≤ farthest_point)
  unfolding places_of
  first_there = rw e ((lies k).first, omega arith)

  pub second_there : (p.second + 2 < length points) × (farthest_point ≤ farthest_point)
  unfolding places_of
  second_there = rw e ((lies k).second, omega arith)

  pub lift_there : (p.lift + 2 < length lifts) × (farthest_lift ≤ farthest_point)
  unfolding places_of
  lift_there = rw e ((lies k).lift, omega arith)

  module _ {x : Bool} (f : x ≡ far_three points p.first farthest_point) where
    at_first : x ≡ far_three points (first_end t s) farthest_point
    unfolding places_of
    at_first = f ∙ ap (λ q. far_three points q.first farthest_point) e

    pub step_first : x ≡ true → true ≡ far_step t points lifts s
    unfolding far_step
    step_first h = any_first (far_three points (first_end t s) farthest_point) (far_three points (second_end t s) farthest_point) (far_three lifts (lift_at s) farthest_lift) at_first h

    module _ (h : x ≡ false) {y : Bool} (g : y ≡ far_three points p.second farthest_point) where
      at_second : y ≡ far_three points (second_end t s) farthest_point
      unfolding places_of
      at_second = g ∙ ap (λ q. far_three points q.second farthest_point) e

      pub step_second : y ≡ true → true ≡ far_step t points lifts s
      unfolding far_step
      step_second l = any_second (far_three points (first_end t s) farthest_point) (far_three points (second_end t s) farthest_point) (far_three lifts (lift_at s) farthest_lift) at_first h at_second l

      pub step_last : y ≡ false → {z : Bool} → z ≡ far_three lifts p.lift farthest_lift → z ≡ far_step t points lifts s
      unfolding far_step places_of
      step_last l m =
          any_last (far_three points (first_end t s) farthest_point) (far_three points (second_end t s) farthest_point) (far_three lifts (lift_at s) farthest_lift) at_first h at_second l
          (m ∙ ap (λ q. far_three lifts q.lift farthest_lift) e)
